use Rattle.volume.proofs.Zeros.{level_written}
use Rattle.volume.proofs.format.Level.write.Goals as goal

pub returns : goal.returns
returns g c s before size turn =
    let level = c.args.self.now in
    level_written g.D.Device s c.write_copies.new.device c.write.new.self before level.count level.others level.last c.args.from c.write.result size level.least (c.write_copies.ensures s before size turn) c.write.ensures.step
