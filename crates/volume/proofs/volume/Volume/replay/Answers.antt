use Rattle.volume.proofs.Everywhere.{everywhere}
use Rattle.volume.proofs.volume.Volume.replay.Goals as goal

pub returns-clause-promise : goal.returns-clause-promise
returns-clause-promise g c =
    everywhere g.D.Source g.T.Source g.D.Device g.T.Device g.H.Hash (record { reads = g.met.D.Source.keeps; writes = g.met.D.Device.keeps_writes }) (record { reads = g.met.T.Source.keeps; writes = g.met.T.Device.keeps_writes })
    (λ key block. (g.met.H.Hash.cell key block).long)
