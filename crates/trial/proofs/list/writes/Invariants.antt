use Rattle.std.proofs.Common.{◌≡◌, ◌∷◌, map, take}
use Rattle.volume.specs.declared.entry.Call.TheVariants.{Open, Begin}
use Rattle.trial.specs.Lists.{asked, bare}
use Rattle.trial.proofs.Lists.{put_in}
use Rattle.trial.proofs.list.writes.Given as goal

abbrev pub invariant-loop-number : goal.invariant-loop-number
invariant-loop-number l = map asked l.list.items ≡ bare Open ∷ bare (Begin 0) ∷ put_in 0 (take l.number l.blocks)
