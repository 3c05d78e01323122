use Rattle.volume.proofs.Searches.{SoFar}
use Rattle.volume.proofs.walk.pass.Given as goal

-- what the ways that are left come to, all of them come to
abbrev pub invariant-loop-way : goal.invariant-loop-way
invariant-loop-way g l = SoFar g.S.Source (g.H.Hash.image l.hash) l.number l.expected l.way-end l.initial.source l.way l.last l.source
