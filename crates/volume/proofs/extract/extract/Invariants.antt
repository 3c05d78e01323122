use Rattle.std.proofs.Common.{◌≡◌, ◌≤◌, suc, length}
use Rattle.geometry.specs.Geometry.{levels}
use Rattle.volume.specs.Extract.{descend, extract}
use Rattle.volume.proofs.extract.extract.Given as goal

-- the parts above this height are the true ones
abbrev pub invariant-loop-height : goal.invariant-loop-height
invariant-loop-height g l =
    (l.height ≤ levels (length l.contents.blocks.items))
    × (extract (g.H.Hash.image l.hash) l.contents.blocks.items l.number l.record_area ≡ descend (g.H.Hash.image l.hash) l.contents.blocks.items l.number l.record_area (suc l.height))
