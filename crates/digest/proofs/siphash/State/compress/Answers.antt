use Rattle.digest.specs.SipHash.{compress}
use Rattle.digest.proofs.siphash.State.compress.Goals as goal

pub returns : goal.returns
unfolding compress
returns c = cc
