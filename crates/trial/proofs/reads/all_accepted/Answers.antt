use Rattle.std.proofs.Common.{◌<◌, length, arith}
use Rattle.trial.proofs.Tallies.{accepted_more}
use Rattle.trial.proofs.reads.all_accepted.Goals as goal

pub loop-entry-preserved : goal.loop-entry-preserved
loop-entry-preserved c =
    let es = c.args.list.now in
    let i = c.loop-entry.entry-index in
    let few : i < length es = omega arith in
    accepted_more es i c.entry-item.result few c.entry-item.is c.loop-entry.invariant c.in_ok-accepted.ensures
