use Rattle.std.proofs.Common.{◌<◌, length, arith}
use Rattle.trial.proofs.Tallies.{counted_most, tallied_more}
use Rattle.trial.proofs.reads.Tally.of.Goals as goal

pub loop-entry-preserved : goal.loop-entry-preserved
loop-entry-preserved c =
    let es = c.args.list.now in
    let i = c.loop-entry.entry-index in
    let e = c.entry-item.result in
    let few : i < length es = omega arith in
    let took = c.in_ok-take.ensures in
    let most = counted_most e.call e.answer in
    record {
      tallied = tallied_more c.args.written.now es i e c.loop-entry.tally c.take.new.self few c.entry-item.is c.loop-entry.invariant.tallied took.counted took.refused took.right;
      few = omega (arith, took.counted, most, c.loop-entry.invariant.few);
    }
