-- What formatting writes: rows in which all are alike but the last.
use Rattle.std.specs.Prelude.{◌≡◌, ℕ, ◌-◌, ◌≤◌, List, [], ◌∷◌, ◌++◌, length, map, replicate}
use Rattle.tree.specs.Layout.{pack}

-- so many, all alike but the last
abbrev pub alike : ℕ → List ℕ → List ℕ → List (List ℕ)
alike count others last = replicate (count - 1) others ++ last ∷ []

-- level 0 of the tree over these contents has so many blocks, all alike but the last
pub record IsLevel (image : List ℕ → List ℕ) (contents : List (List ℕ)) (count : ℕ) (others last : List ℕ) : Type 0 where
  pub least : 1 ≤ length contents
  pub most : length contents ≤ 4096
  pub blocks : pack (map image contents) ≡ alike count others last
