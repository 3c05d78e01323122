use Rattle.std.proofs.Common.{◌≡◌}
use Rattle.tree.proofs.Cells.{sixteen}
use Rattle.tree.proofs.Levels.{first}
use Rattle.volume.specs.Extract.{blocks_at}
use Rattle.volume.proofs.extract.+true_block.Given as goal

abbrev pub decreases-true_block : goal.decreases-true_block
decreases-true_block g l = l.height

-- the first i cells are the images of blocks below
abbrev pub invariant-loop-i : goal.invariant-loop-i
invariant-loop-i g l = l.cells ≡ first (g.H.Hash.image l.hash) (sixteen (blocks_at (g.H.Hash.image l.hash) l.contents.blocks.items l.below) l.at) l.i
