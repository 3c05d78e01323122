use Rattle.std.proofs.Common.{arith}
use Rattle.std.proofs.lemmas.Grind.{common_steps}
use Rattle.trial.proofs.Lists.{got_step, reads_end}
use Rattle.trial.proofs.list.reads.Goals as goal

pub loop-number-preserved : goal.loop-number-preserved
loop-number-preserved c = got_step _ _ _ _ c.in_ok-with_block.ensures c.loop-number.invariant c.in_ok-push-2.ensures.items

pub returns : goal.returns
returns c = grind (arith, common_steps, reads_end 0 c.args.blocks)
