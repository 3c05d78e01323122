use Rattle.std.proofs.Common.{◌≡◌, ℕ, ◌-◌, ◌++◌, List, length, replicate}
use Rattle.volume.specs.Writes.{InTurn}
use Rattle.volume.proofs.format.write_copies.Given as goal

abbrev pub invariant-loop-number : goal.invariant-loop-number
invariant-loop-number g l =
    (s : g.row.D.Denot) (before : List (List ℕ)) → length before ≡ l.from → InTurn g.D.Device 0 before s l.initial.device
    → InTurn g.D.Device 0 (before ++ replicate (l.number - l.from) l.block) s l.device
