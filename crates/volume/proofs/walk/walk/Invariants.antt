use Rattle.std.proofs.Common.{◌≤◌}
use Rattle.geometry.specs.Geometry.{levels}
use Rattle.volume.proofs.Descents.{SoFar}
use Rattle.volume.proofs.walk.walk.Given as goal

-- what the levels that are left come to, all of them come to
abbrev pub invariant-loop-level : goal.invariant-loop-level
invariant-loop-level g l =
    SoFar g.S.Source (g.H.Hash.image l.hash) l.geometry.blocks l.number (levels l.geometry.blocks) l.root l.initial.log l.initial.tree l.level l.expected l.log l.tree
    × (l.level ≤ levels l.geometry.blocks)
