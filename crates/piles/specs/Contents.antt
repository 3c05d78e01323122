-- A block in short.
use Rattle.std.specs.Prelude.{◌≡◌, ℕ, ◌↔◌, List, All, IsTrue, slice_index}
use Rattle.piles.specs.declared.play.Contents.{Contents}

-- its first byte, and whether all others are the same
pub record IsSeen (block : List ℕ) (contents : Contents) : Type 0 where
  pub first : contents.first ≡ slice_index block 0
  pub uniform : IsTrue contents.uniform ↔ All (λ byte. byte ≡ contents.first) block
