use Rattle.std.proofs.Common.{◌<◌, ◌∙◌, [], map, sym, refl, subst, arith}
use Rattle.geometry.proofs.Numbers.{total_most}
use Rattle.tree.specs.Layout.{pack, tree_of}
use Rattle.volume.specs.Writes.{InTurn}
use Rattle.volume.proofs.Zeros.{only_level, only_root, level_above, tree_above, length_above, root_above}
use Rattle.volume.proofs.format.+write_levels.Goals as goal

pub returns-then-level-eq1-clause-tree : goal.returns-then-level-eq1-clause-tree
returns-then-level-eq1-clause-tree g t c contents lv =
    let s = c.args.device.now in
    subst (λ l. InTurn g.D.Device 0 l s c.write.new.device) (sym (only_level lv c.args.level.now.least c.if-level-eq1.true)) (c.write.ensures s [] refl refl)

pub returns-then-level-eq1-clause-root : goal.returns-then-level-eq1-clause-root
returns-then-level-eq1-clause-root g t c contents lv = c.image_of-last.ensures ∙ only_root lv c.args.level.now.least c.if-level-eq1.true

pub write-requires-2 : goal.write-requires-2
write-requires-2 g t c =
    let level = c.args.level.now in
    omega (arith, c.total.ensures, total_most level.count level.least (omega (arith, level.most)))

pub returns-clause-tree : goal.returns-clause-tree
returns-clause-tree g t c contents lv =
    let image = g.H.Hash.image c.args.hash.now in
    let level = c.args.level.now in
    let lowest = pack (map image contents) in
    let more : 1 < level.count = omega arith in
    let above = level_above lv level.least more c.image_of-others.ensures c.image_of-last.ensures c.over-above.ensures.blocks in
    let s = c.args.device.now in
    subst (λ l. InTurn g.D.Device 0 l s c.write-2.new.device) (sym (tree_above lv level.least more))
    (c.write-2.ensures s (tree_of image lowest) (length_above lv level.least more ∙ sym c.total.ensures) (c.write_levels-root.ensures.tree lowest above))

pub returns-clause-root : goal.returns-clause-root
returns-clause-root g t c contents lv =
    let level = c.args.level.now in
    let more : 1 < level.count = omega arith in
    let above = level_above lv level.least more c.image_of-others.ensures c.image_of-last.ensures c.over-above.ensures.blocks in
    c.write_levels-root.ensures.root (pack (map (g.H.Hash.image c.args.hash.now) contents)) above ∙ root_above lv level.least more
