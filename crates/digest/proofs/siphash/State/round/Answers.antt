use Rattle.digest.specs.SipHash.{SipRound, plus, rotl}
use Rattle.digest.proofs.siphash.State.round.Goals as goal

pub returns : goal.returns
unfolding SipRound plus rotl
returns c = cc
