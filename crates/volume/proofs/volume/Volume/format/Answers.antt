use Rattle.volume.proofs.Starts.{start_if_accepted}
use Rattle.volume.specs.View.{base}
use Rattle.volume.proofs.volume.Volume.format.Goals as goal

pub returns-clause-start : goal.returns-clause-start
returns-clause-start g c =
    start_if_accepted (base g.D.Source g.T.Source g.D.Device g.T.Device g.H.Hash)
    (record {
      store = record { reads = g.met.D.Source.keeps; writes = g.met.D.Device.keeps_writes };
      tree = record { reads = g.met.T.Source.keeps; writes = g.met.T.Device.keeps_writes };
      wide = λ key block. (g.met.H.Hash.cell key block).long;
    })
    c.args.self.now c.format_devices.new.self c.args.register.now c.format_devices.new.register c.format_devices.result c.format_devices.ensures
