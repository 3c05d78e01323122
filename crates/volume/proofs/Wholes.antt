-- The blocks that a volume writes are whole.
use Rattle.std.proofs.Common.{◌≡◌, ℕ, zero, suc, ◌-◌, ◌*◌, ◌<◌, ◌≤◌, List, map, length, drop, replicate, refl, ap, ◌∙◌, arith, length-append, length-take, length-drop}
use Rattle.std.specs.List.{All}
use Rattle.std.proofs.lemmas.List.{length-replicate}
use Rattle.std.proofs.lemmas.List.Elements.{All-append, All-nil, All-replicate}
use Rattle.device.specs.MemoryLaws.{length-part}
use Rattle.geometry.specs.Geometry.{levels, place}
use Rattle.tree.specs.Layout.{level, pack, put_cell, side_by_side, stacked, tree_of, zero_block}
use Rattle.tree.specs.Paths.{new_block, risen}
use Rattle.tree.proofs.Cells.{Wide, flat, get_or-pack, length-flat, length-pack, sixteen, wide_sixteen}
use Rattle.tree.proofs.Levels.{wide_images}
use Rattle.volume.specs.Writes.{passed_at}
use Rattle.volume.proofs.Places.{cell_inside}

abbrev pub Whole : List ℕ → Type 0
Whole block = length block ≡ 512

-- a block with a cell replaced is as long
pub length-put_cell : (block : List ℕ) (c : ℕ) (cell : List ℕ) → length block ≡ 512 → c < 16 → length cell ≡ 32 → length (put_cell block c cell) ≡ 512
unfolding put_cell
length-put_cell block c cell whole inside wide = simp (length-append, length-take, length-drop) (omega arith)

-- a tree block of the record is whole
pub passed_whole : (log : List ℕ) (l : ℕ) → length log ≡ 2048 → l < 3 → length (passed_at log l) ≡ 512
passed_whole log l long few = length-part log (suc l) (omega arith)

module _ (image : List ℕ → List ℕ) (wide : (b : List ℕ) → length (image b) ≡ 32) (blocks n : ℕ) (old : ℕ → List ℕ) (block : List ℕ) where
  -- what rises is as long as a cell
  pub risen_wide : (l : ℕ) → length (risen image blocks n old block l) ≡ 32
  risen_wide zero = wide block
  risen_wide (suc l) = wide (new_block image blocks n old block l)

  pub new_block_whole : (l : ℕ) → length (old l) ≡ 512 → length (new_block image blocks n old block l) ≡ 512
  new_block_whole l whole = length-put_cell (old l) (place blocks l n).1 (risen image blocks n old block l) whole (cell_inside blocks l n (place blocks l n) refl) (risen_wide l)

-- so are those over the record of a walk, up to the top
pub new_blocks_whole : (image : List ℕ → List ℕ) → ((b : List ℕ) → length (image b) ≡ 32) → (blocks n : ℕ) (log block : List ℕ) → length log ≡ 2048 → (l : ℕ) → l ≤ 3
    → (j : ℕ) → j < l → length (new_block image blocks n (passed_at log) block j) ≡ 512
new_blocks_whole image wide blocks n log block long l few j below = new_block_whole image wide blocks n (passed_at log) block j (passed_whole log j long (omega arith))

-- cells side by side fill a block
side_whole : (cells : List (List ℕ)) → Wide cells → length cells ≤ 16 → length (side_by_side cells) ≡ 512
unfolding side_by_side
side_whole cells w few = omega (arith, length-append (flat cells) (replicate (512 - 32 * length cells) 0), length-flat cells w, length-replicate {A = ℕ} (512 - 32 * length cells) 0)

pack_whole : (cells : List (List ℕ)) → Wide cells → All Whole (pack cells)
pack_whole cells w k d h =
    ap length (get_or-pack cells k d (omega (arith, length-pack cells))) ∙ side_whole (sixteen cells k) (wide_sixteen cells k w) (omega (arith, length-take 16 (drop (16 * k) cells)))

module _ (image : List ℕ → List ℕ) (wide : (b : List ℕ) → length (image b) ≡ 32) (contents : List (List ℕ)) where
  level_whole : (l : ℕ) → All Whole (level image l contents)
  level_whole zero = pack_whole (map image contents) (wide_images image wide contents)
  level_whole (suc l) = pack_whole (map image (level image l contents)) (wide_images image wide (level image l contents))

  stacked_whole : (l : ℕ) → All Whole (stacked image l contents)
  stacked_whole zero = All-nil Whole
  stacked_whole (suc l) = All-append Whole (level image l contents) (stacked image l contents) (level_whole l) (stacked_whole l)

  -- all blocks of the tree over any contents are whole
  pub tree_whole : All Whole (tree_of image contents)
  unfolding tree_of
  tree_whole = stacked_whole (levels (length contents))

-- so are blocks of zeros
pub zeros_whole : (n : ℕ) → All Whole (replicate n zero_block)
unfolding zero_block
zeros_whole n = All-replicate Whole n zero_block (length-replicate {A = ℕ} 512 0)
