use Rattle.std.proofs.Common.{◌≡◌, ◌≤◌, ◌++◌, length, take, drop, vec_items, ap, ◌∙◌, arith}
use lib.ListN.{length-replicate}
use Rattle.geometry.specs.Geometry.{total}
use Rattle.tree.specs.Layout.{zero_block, tree_of}
use Rattle.tree.proofs.Paths.{leads_there}
use Rattle.tree.proofs.Whole.{made_tree}
use Rattle.tree.proofs.layout.Tree.over.Goals as goal

pub returns : goal.returns
returns g c =
    let image = g.H.Hash.image c.args.hash.now in
    let contents = vec_items c.args.contents.now.blocks in
    let blocks = c.in_ok-blocks.blocks in
    let made = c.fill.new.tree in
    let rest = drop (length made) blocks.items in
    let root = c.image_of-root.result in
    let size : c.geometry.result.blocks ≡ length contents = c.geometry.ensures ∙ c.args.contents.now.blocks.ok.0 in
    let least : 1 ≤ length contents = omega (arith, c.geometry.result.least) in
    let most : length contents ≤ 4096 = omega (arith, c.geometry.result.most) in
    let long : blocks.len ≡ total (length contents) = blocks.ok.0 ∙ ap length c.in_ok-blocks.ensures ∙ length-replicate c.total.result zero_block ∙ c.total.ensures ∙ ap total size in
    let is = made_tree image contents blocks.len made rest c.index.result.now root least most long (c.fill.ensures ∙ ap (tree_of image) c.deref.ensures.value) c.index.ensures c.image_of-root.ensures in
    record { layout = is; leads = leads_there image (λ b. (g.met.H.Hash.cell c.args.hash.now b).long) contents (take blocks.len (made ++ rest)) root least most is }
