use Rattle.std.proofs.Common.{◌≡◌, map, take}
use Rattle.tree.specs.Layout.{side_by_side}
use Rattle.tree.proofs.layout.fill_block.Given as goal

abbrev pub invariant-loop-i : goal.invariant-loop-i
invariant-loop-i g l = l.block ≡ side_by_side (map (g.H.Hash.image l.hash) (take l.i l.below))
