-- What a record shows of the hash, beside the true contents: two blocks that differ and have one image.
use Rattle.std.specs.Prelude.{ℕ, zero, suc, cond, ◌==◌, ◌&&◌, nat_lt, List, length, Option, None, Some}
use Rattle.std.specs.Str.{bytes_eq}
use Rattle.device.specs.Memory.{part}
use Rattle.geometry.specs.Geometry.{levels}
use Rattle.tree.specs.Layout.{level}
use Rattle.tree.specs.Paths.{true_part}
use Rattle.volume.specs.declared.extract.Pair.{Pair}

-- a true block and the recorded one
abbrev pub lists_of : Option Pair → Option (List ℕ × List ℕ)
lists_of None = None
lists_of (Some p) = Some (p.truth, p.recorded)

module _ (image : List ℕ → List ℕ) where
  -- the blocks of a height: the data blocks, and above them the levels of the tree
  abbrev pub blocks_at : List (List ℕ) → ℕ → List (List ℕ)
  blocks_at contents zero = contents
  blocks_at contents (suc l) = level image l contents

  -- where the two are equal, the rest decides; where they differ, they are the pair if their images agree, and there is none if not
  abbrev pub differ : List ℕ → List ℕ → Option (List ℕ × List ℕ) → Option (List ℕ × List ℕ)
  differ truth recorded rest = cond (bytes_eq truth recorded) rest (cond (bytes_eq (image truth) (image recorded)) (Some (truth, recorded)) None)

  module _ (contents : List (List ℕ)) (k : ℕ) (record_area : List ℕ) where
    -- the lowest j parts, from the highest of them down
    abbrev pub descend : ℕ → Option (List ℕ × List ℕ)
    descend zero = None
    descend (suc j) = differ (true_part image contents k j) (part record_area j) (descend j)

    -- all parts, from the top level down to the data block
    unfoldable pub extract : Option (List ℕ × List ℕ)
    extract = cond (nat_lt k (length contents) && (length record_area == 2048)) (descend (suc (levels (length contents)))) None
