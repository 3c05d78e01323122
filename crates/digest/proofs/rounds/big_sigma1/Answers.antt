use Rattle.digest.proofs.Rotations.{big1}
use Rattle.digest.specs.Sha256.{ROTR}
use Rattle.digest.proofs.rounds.big_sigma1.Goals as goal

pub returns : goal.returns
unfolding ROTR
returns c = rw (c.rotate_right-3.ensures, c.rotate_right-2.ensures, c.rotate_right.ensures) (big1 c.args.x c.ranges.x.fits)
