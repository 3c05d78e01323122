use Rattle.std.proofs.Common.{◌<◌, length, arith}
use Rattle.trial.proofs.Tallies.{lines_more}
use Rattle.trial.proofs.reads.Tally.add_refused.Goals as goal

pub loop-read-preserved : goal.loop-read-preserved
loop-read-preserved c =
    let few : c.loop-read.read-index < length c.deref-read-items.result.now = omega arith in
    lines_more _ _ _ _ _ _ few c.loop-read.invariant c.in_ok-writeln.ensures.bytes
