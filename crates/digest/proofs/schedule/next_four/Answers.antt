use Rattle.digest.specs.Sha256.{plus}
use Rattle.digest.proofs.Lanes.{next}
use Rattle.digest.proofs.schedule.next_four.Goals as goal

pub returns : goal.returns
unfolding plus
returns c =
    rw (c.small_sigma1-2.ensures, c.small_sigma1.ensures, c.small_sigma0.ensures)
    (next c.args.w0 c.fits-w0.0 c.args.w1 c.fits-w1.0 c.args.w2 c.fits-w2.0 c.args.w3 c.fits-w3.0)
