use Rattle.std.proofs.Common.{◌≡◌, ◌∷◌, map}
use Rattle.volume.specs.declared.entry.Call.TheVariants.{Open}
use Rattle.trial.specs.Lists.{asked, bare}
use Rattle.trial.proofs.Lists.{got_out}
use Rattle.trial.proofs.list.reads.Given as goal

abbrev pub invariant-loop-number : goal.invariant-loop-number
invariant-loop-number l = map asked l.list.items ≡ bare Open ∷ got_out 0 l.number
