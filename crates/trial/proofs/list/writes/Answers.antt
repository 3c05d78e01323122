use Rattle.std.proofs.Common.{◌<◌, length, arith}
use Rattle.std.proofs.lemmas.Grind.{common_steps}
use Rattle.trial.proofs.Lists.{put_more, writes_end}
use Rattle.trial.proofs.list.writes.Goals as goal

pub loop-number-preserved : goal.loop-number-preserved
loop-number-preserved c =
    let few : c.loop-number.number < length c.args.blocks.now = omega arith in
    grind (arith, common_steps, put_more c.args.blocks.now c.loop-number.number few)

pub returns : goal.returns
returns c = grind (arith, common_steps, writes_end 0 c.args.blocks.now)
