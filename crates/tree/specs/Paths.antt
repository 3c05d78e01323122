-- What the places are for: from any data block they lead up, image by image, to the root.
use Rattle.std.specs.Prelude.{◌≡◌, ℕ, zero, suc, ◌*◌, ◌/◌, ◌^◌, ◌<◌, List, [], length, take, drop, slice_index_or}
use Rattle.geometry.specs.Geometry.{levels, place}
use Rattle.tree.specs.Layout.{level, put_cell}

-- cell c of a block
unfoldable pub cell_at : List ℕ → ℕ → List ℕ
cell_at block c = take 32 (drop (32 * c) block)

-- the cell at a place of the tree device
abbrev pub cell_of : List (List ℕ) → ℕ × ℕ → List ℕ
cell_of tree p = cell_at (slice_index_or tree p.0 []) p.1

-- the cells on the way of data block k from the contents to the root
pub record Leads (image : List ℕ → List ℕ) (contents tree : List (List ℕ)) (root : List ℕ) (k : ℕ) : Type 0 where
  -- at level 0 stands the image of the data block
  pub bottom : cell_of tree (place (length contents) 0 k) ≡ image (slice_index_or contents k [])
  -- at each level above, the image of the tree block that has its place at the level below
  pub between : (l : ℕ) → suc l < levels (length contents) → cell_of tree (place (length contents) (suc l) k) ≡ image (slice_index_or tree (place (length contents) l k).0 [])
  -- the root is the image of the tree block that has its place at the top
  pub top : (l : ℕ) → suc l ≡ levels (length contents) → root ≡ image (slice_index_or tree (place (length contents) l k).0 [])

abbrev pub LeadUp : (List ℕ → List ℕ) → List (List ℕ) → List (List ℕ) → List ℕ → Type 0
LeadUp image contents tree root = (k : ℕ) → k < length contents → Leads image contents tree root k

-- what stands truly on the way of data block k: part 0 is the data block itself, part l + 1 the tree block of level l
abbrev pub true_part : (List ℕ → List ℕ) → List (List ℕ) → ℕ → ℕ → List ℕ
true_part image contents k zero = slice_index_or contents k []
true_part image contents k (suc l) = slice_index_or (level image l contents) (k / 16 ^ suc l) []

-- a write of data block k, told from below: what stands in the tree block of level l afterwards in place of `old l`, and its image
module _ (image : List ℕ → List ℕ) (n k : ℕ) (old : ℕ → List ℕ) (block : List ℕ) where
  -- the image that goes into the tree block of level l; with all levels done, the root
  abbrev pub risen : ℕ → List ℕ
  risen zero = image block
  risen (suc l) = image (put_cell (old l) (place n l k).1 (risen l))

  abbrev pub new_block : ℕ → List ℕ
  new_block l = put_cell (old l) (place n l k).1 (risen l)
