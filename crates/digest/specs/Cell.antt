-- What the image of a block looks like.
use Rattle.std.specs.Prelude.{◌≡◌, ℕ, ◌<◌, ◌≤◌, List, length, slice_index}

-- 32 bytes, and zero from the hash's length on
pub record IsCell (size : ℕ) (cell : List ℕ) : Type 0 where
  pub long : length cell ≡ 32
  pub bytes : (i : ℕ) → slice_index cell i < 256
  pub zero_tail : (i : ℕ) → size ≤ i → slice_index cell i ≡ 0
