use Rattle.std.specs.List.{each_same}
use Rattle.std.specs.Prelude.{IfOk, Result, Ok, Err}
use Rattle.tree.specs.Layout.{zero_block}
use Rattle.trial.proofs.cards.region.Goals as goal

at_ok : {V E : Type 0} (r : Result V E) (P Q : V → Type 0) → ((v : V) → P v → Q v) → IfOk r P → IfOk r Q
at_ok (Ok v) P Q f h = f v h
at_ok (Err e) P Q f h = h

pub returns : goal.returns
unfolding zero_block
returns c = at_ok c.vec.result _ _ (λ v all. all (λ y same. each_same _ _ same.whole)) c.vec.ensures.items_if_clones_equal
