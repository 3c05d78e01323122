use Rattle.device.proofs.EveryPile.{piles_keep}
use Rattle.device.proofs.piles.cached_mirror.Goals as goal

pub returns-clause-every_pile : goal.returns-clause-every_pile
returns-clause-every_pile g c =
    piles_keep g.A.Source g.B.Source g.A.Device g.B.Device
    (record { reads = g.met.A.Source.keeps; writes = g.met.A.Device.keeps_writes })
    (record { reads = g.met.B.Source.keeps; writes = g.met.B.Device.keeps_writes })
