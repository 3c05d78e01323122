use Rattle.digest.specs.Sha256.{plus}
use Rattle.digest.proofs.FourRounds.{round_of}
use Rattle.digest.proofs.variables.Variables.round.Goals as goal

pub returns : goal.returns
unfolding plus
returns c k w e =
    round_of c.args.self k w c.args.sum _ _ _ _ e c.big_sigma1.ensures c.ch.ensures c.big_sigma0.ensures c.maj.ensures
