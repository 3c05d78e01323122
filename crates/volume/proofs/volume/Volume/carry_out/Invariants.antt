use Rattle.volume.proofs.Entries.{SoFar}
use Rattle.volume.specs.Story.{state}
use Rattle.volume.specs.View.{base}
use Rattle.volume.proofs.volume.Volume.carry_out.Given as goal

abbrev pub invariant-loop-entry : goal.invariant-loop-entry
invariant-loop-entry g l =
    let at = l.initial in
    SoFar (base g.D.Source g.T.Source g.D.Device g.T.Device g.H.Hash) (state at.self at.register) at.slips at.entries l.entries l.entry-index l.slips (state l.self l.register)
