use Rattle.std.proofs.Common.{replicate}
use Rattle.tree.specs.Layout.{zero_block}
use Rattle.volume.proofs.Zeros.{level_of_copies}
use Rattle.volume.proofs.format.write_zero_tree.Goals as goal

pub returns-clause-tree : goal.returns-clause-tree
unfolding zero_block
returns-clause-tree g c =
    let numbers = c.args.geometry in
    c.write_levels.ensures.tree (replicate numbers.blocks zero_block) (level_of_copies zero_block numbers.least numbers.most c.image_of-cell.ensures c.over.ensures.blocks)

pub returns-clause-root : goal.returns-clause-root
unfolding zero_block
returns-clause-root g c =
    let numbers = c.args.geometry in
    c.write_levels.ensures.root (replicate numbers.blocks zero_block) (level_of_copies zero_block numbers.least numbers.most c.image_of-cell.ensures c.over.ensures.blocks)
