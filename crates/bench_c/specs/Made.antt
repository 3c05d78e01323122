-- What an export that makes a root tells C.
use Rattle.std.specs.Prelude.{◌≡◌, ℕ, ◌<◌, ◌≤◌, ◌⊎◌, List, length, Ok, Err, vec_items, Result}
use Rattle.bench_c.specs.declared.Trouble.{Trouble}
use Rattle.bench_c.specs.declared.Trouble.TheVariants.{Count, Memory}
use Rattle.tree.specs.declared.contents.Contents.{Contents}
use Rattle.tree.specs.Layout.{root_of}

-- as many blocks as a volume has, and as many as none has
abbrev pub Fits : ℕ → Type 0
Fits n = (1 ≤ n) × (n ≤ 4096)

abbrev pub Unfit : ℕ → Type 0
Unfit n = (n ≡ 0) ⊎ (4096 < n)

-- a copy of the blocks, or why there is none
abbrev pub Copied : List (List ℕ) → Result Contents Trouble → Type 0
Copied blocks (Ok c) = Fits (length blocks) × (vec_items c.blocks ≡ blocks)
Copied blocks (Err Count) = Unfit (length blocks)
Copied blocks (Err Memory) = Fits (length blocks)

-- the root under this image, or why there is none
abbrev pub Rooted : (List ℕ → List ℕ) → List (List ℕ) → Result (List ℕ) Trouble → Type 0
Rooted image blocks (Ok root) = Fits (length blocks) × (root ≡ root_of image blocks)
Rooted image blocks (Err Count) = Unfit (length blocks)
Rooted image blocks (Err Memory) = Fits (length blocks)

-- the number that C gets, and what stands in the place for the root: 0 with the root in it; 1 for a count that no volume has and 2 for
-- want of memory, with what stood there
abbrev pub Told : (List ℕ → List ℕ) → List (List ℕ) → List ℕ → List ℕ → ℕ → Type 0
Told image blocks old new code =
    ((code ≡ 0) × Fits (length blocks) × (new ≡ root_of image blocks))
    ⊎ (((code ≡ 1) × Unfit (length blocks) × (new ≡ old)) ⊎ ((code ≡ 2) × Fits (length blocks) × (new ≡ old)))
