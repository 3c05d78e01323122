use Rattle.std.proofs.Common.{◌≡◌, ◌<◌, ℕ, [], get_or, length}
use Rattle.tree.specs.Paths.{new_block, risen}
use Rattle.volume.specs.Writes.{passed_at}
use Rattle.volume.proofs.write.plan_for.Given as goal

-- the blocks of the levels so far are in the plan, and the image is the one that rises from them
abbrev pub invariant-loop-level : goal.invariant-loop-level
invariant-loop-level g l =
    let hashed = g.H.Hash.image l.hash in
    (l.image ≡ risen hashed l.geometry.blocks l.number (passed_at l.log) l.block l.level)
    × ((k : ℕ) → k < l.level → get_or l.tree_blocks k [] ≡ new_block hashed l.geometry.blocks l.number (passed_at l.log) l.block k)
    × (length l.tree_blocks ≡ 3)
