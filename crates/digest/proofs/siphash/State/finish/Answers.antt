use Rattle.digest.specs.SipHash.{finalize}
use Rattle.digest.proofs.siphash.State.finish.Goals as goal

pub returns : goal.returns
unfolding finalize
returns c = cc
