use Rattle.std.proofs.Common.{◌≤◌, take}
use Rattle.trial.specs.Drill.{Tallied}
use Rattle.trial.proofs.reads.Tally.of.Given as goal

abbrev pub invariant-loop-entry : goal.invariant-loop-entry
invariant-loop-entry l = record { tallied : Tallied l.written (take l.entry-index l.list) l.tally; few : l.tally.right ≤ l.entry-index }
