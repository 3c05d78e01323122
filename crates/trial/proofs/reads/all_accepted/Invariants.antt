use Rattle.std.proofs.Common.{take}
use Rattle.trial.specs.Lists.{AllAccepted}
use Rattle.trial.proofs.reads.all_accepted.Given as goal

abbrev pub invariant-loop-entry : goal.invariant-loop-entry
invariant-loop-entry l = AllAccepted (take l.entry-index l.list)
