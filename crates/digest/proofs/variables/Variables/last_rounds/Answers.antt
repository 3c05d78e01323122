use Rattle.std.proofs.Common.{◌∙◌}
use Rattle.digest.proofs.FourRounds.{sixteen_last}
use Rattle.digest.proofs.variables.Variables.last_rounds.Goals as goal

pub returns : goal.returns
returns c start block w half =
    sixteen_last w.w0 half.first.0 w.w1 half.second.0 w.w2 half.third.0 w.w3 half.fourth.0 c.args.self _ _ _ _
    (c.four_rounds.ensures w.w0 half.first)
    (c.four_rounds-2.ensures w.w1 half.second)
    (c.four_rounds-3.ensures w.w2 half.third)
    (c.four_rounds-4.ensures w.w3 half.fourth)
    ∙ half.left
