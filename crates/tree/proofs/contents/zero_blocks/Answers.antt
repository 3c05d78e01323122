use Rattle.std.proofs.lemmas.List.Elements.{same_from_all_zip}
use Rattle.std.proofs.lemmas.Result.{IfOk-weaker}
use Rattle.tree.specs.Layout.{zero_block}
use Rattle.tree.proofs.contents.zero_blocks.Goals as goal

-- a clone of bytes is those bytes
pub returns : goal.returns
unfolding zero_block
returns c = IfOk-weaker c.vec.result _ _ (λ v h. h (λ y z. same_from_all_zip _ _ _ z.whole (λ a b e. e))) c.vec.ensures.items_if_clones_equal
