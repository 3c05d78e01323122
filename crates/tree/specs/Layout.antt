-- How the hash tree over a volume's contents lies on the tree device. A block is 512 bytes and a cell, the image of a block, 32.
use Rattle.std.specs.Prelude.{ℕ, zero, suc, ◌+◌, ◌-◌, ◌*◌, List, [], ◌++◌, map, length, take, drop, replicate, slice_index_or}
use Rattle.std.specs.List.{range_with_len, flat_map}
use Rattle.geometry.specs.Geometry.{up, levels}

-- a block of zeros
unfoldable pub zero_block : List ℕ
zero_block = replicate 512 0

-- up to sixteen cells side by side in one block, zeros after the last
unfoldable pub side_by_side : List (List ℕ) → List ℕ
side_by_side cells = flat_map (λ cell. cell) cells ++ replicate (512 - 32 * length cells) 0

-- sixteen cells to a block: block j has the cells from 16 j on
unfoldable pub pack : List (List ℕ) → List (List ℕ)
pack cells = map (λ j. side_by_side (take 16 (drop (16 * j) cells))) (range_with_len 0 (up (length cells)))

-- a block with its cell c replaced, as a write of a volume does it
unfoldable pub put_cell : List ℕ → ℕ → List ℕ → List ℕ
put_cell block c cell = take (32 * c) block ++ (cell ++ drop (32 * c + 32) block)

module _ (image : List ℕ → List ℕ) where
  -- level 0 holds the images of the contents, each level above those of the level below it
  abbrev pub level : ℕ → List (List ℕ) → List (List ℕ)
  level zero contents = pack (map image contents)
  level (suc l) contents = pack (map image (level l contents))

  -- the levels below level l, the highest first
  abbrev pub stacked : ℕ → List (List ℕ) → List (List ℕ)
  stacked zero contents = []
  stacked (suc l) contents = level l contents ++ stacked l contents

  -- the blocks of the tree device from block 0 on: all levels, the top first
  unfoldable pub tree_of : List (List ℕ) → List (List ℕ)
  tree_of contents = stacked (levels (length contents)) contents

  -- the image of the top block
  unfoldable pub root_of : List (List ℕ) → List ℕ
  root_of contents = image (slice_index_or (tree_of contents) 0 [])
