use Rattle.std.proofs.Common.{◌≡◌, length, rules}
use Rattle.digest.proofs.FourRounds.{in_turn}
use Rattle.digest.proofs.Sums.{reads}
use Rattle.digest.proofs.variables.Variables.four_rounds.Goals as goal

pub returns : goal.returns
returns c words has =
    let long : length c.args.sums.now ≡ 64 = search rules in
    let sum = reads c.args.sums.now c.args.t long c.requires words has in
    in_turn c.args.t c.requires words has.0 c.args.self _ _ _ _
    (c.round.ensures _ _ sum.0)
    (c.round-2.ensures _ _ sum.1)
    (c.round-3.ensures _ _ sum.2)
    (c.round-4.ensures _ _ sum.3)
