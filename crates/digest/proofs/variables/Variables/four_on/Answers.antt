use Rattle.std.proofs.Common.{◌≡◌, length, rules}
use Rattle.digest.proofs.Steps.{moved_on}
use Rattle.digest.proofs.variables.Variables.four_on.Goals as goal

pub returns : goal.returns
returns c start block half =
    let long : length c.args.sums.now ≡ 64 = search rules in
    let wide : length c.later-later.result.w3 ≡ 4 = search rules in
    moved_on start c.args.self _ block c.args.sums.now _ c.args.t c.args.window c.later-later.result
    c.requires long wide c.four_rounds-v.ensures c.later-later.ensures.words c.later-later.ensures.kept c.put_sums.ensures half
