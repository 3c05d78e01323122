use Rattle.std.proofs.Common.{sym, subst}
use Rattle.bench.specs.Beside.{IsBlock}
use Rattle.bench.proofs.Lending.{stands_over}
use Rattle.bench.proofs.stranger.beside.Goals as goal

pub stranger-slip-requires : goal.stranger-slip-requires
stranger-slip-requires g c =
    let made = c.keyed-companion.ensures.made in
    stands_over _ made.closed
    (subst (λ d. IsBlock (g.D.Source.meaning d)) (sym made.over_data) c.requires.store)
    (subst (λ d. IsBlock (g.T.Source.meaning d)) (sym made.over_tree) c.requires.tree)
