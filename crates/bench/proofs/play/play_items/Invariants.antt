use Rattle.volume.specs.Replay.{Balance}
use Rattle.volume.specs.View.{base, view}
use Rattle.bench.proofs.play.play_items.Given as goal

abbrev pub invariant-loop-item : goal.invariant-loop-item
invariant-loop-item g l =
    let b = base g.D.Source g.T.Source g.D.Device g.T.Device g.H.Hash in
    Balance (view b l.fn.volume) l.fn.pool l.pool (view b l.volume)
