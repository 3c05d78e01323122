use Rattle.digest.proofs.Rotations.{big0}
use Rattle.digest.specs.Sha256.{ROTR}
use Rattle.digest.proofs.rounds.big_sigma0.Goals as goal

pub returns : goal.returns
unfolding ROTR
returns c = rw (c.rotate_right-3.ensures, c.rotate_right-2.ensures, c.rotate_right.ensures) (big0 c.args.x c.ranges.x.fits)
