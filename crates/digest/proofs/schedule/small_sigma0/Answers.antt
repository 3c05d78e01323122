use Rattle.digest.proofs.Lanes.{small0}
use Rattle.digest.proofs.schedule.small_sigma0.Goals as goal

pub returns : goal.returns
returns c = rw (c.rotate.ensures, c.rotate-2.ensures) (small0 c.args.x c.fits-x.0)
