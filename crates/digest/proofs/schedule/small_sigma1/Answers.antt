use Rattle.digest.proofs.Rotations.{small1_first_two}
use Rattle.digest.proofs.schedule.small_sigma1.Goals as goal

pub returns : goal.returns
returns c = small1_first_two c.args.x c.fits-x.0 c.fits-x.1
