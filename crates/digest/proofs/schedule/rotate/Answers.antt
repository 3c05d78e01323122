use Rattle.digest.proofs.Lanes.{turned}
use Rattle.digest.proofs.schedule.rotate.Goals as goal

pub returns : goal.returns
returns c = turned c.args.n c.requires.low c.requires.high c.args.x c.fits-x.0
