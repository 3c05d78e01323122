-- A plan worked out level by level.
use Rattle.std.proofs.Common.{◌≡◌, ◌≢◌, ℕ, suc, ◌+◌, ◌<◌, List, [], length, get_or, set, ap, ◌∙◌, below_more, arith, get_or-set_other, get_or-set_same}
use Rattle.device.specs.Memory.{part}
use Rattle.geometry.specs.Geometry.{place}
use Rattle.tree.specs.Layout.{put_cell}
use Rattle.tree.specs.Paths.{new_block, risen}
use Rattle.volume.specs.Writes.{passed_at}

module _ (image : List ℕ → List ℕ) (blocks n : ℕ) (log block : List ℕ) where
  -- what a level's block becomes, as the code works it out
  pub as_planned : (l : ℕ) (there : ℕ × ℕ) (rising new : List ℕ) → rising ≡ risen image blocks n (passed_at log) block l → there ≡ place blocks l n → new ≡ put_cell (part log (l + 1)) there.1 rising → new ≡ new_block image blocks n (passed_at log) block l
  as_planned l there rising new rises at made =
      let up : l + 1 ≡ suc l = omega arith in
      made ∙ (λ i. put_cell (part log (up i)) (at i).1 (rises i))

  -- and the image over it
  pub risen_more : (l : ℕ) (new over : List ℕ) → new ≡ new_block image blocks n (passed_at log) block l → over ≡ image new → over ≡ risen image blocks n (passed_at log) block (l + 1)
  risen_more l new over planned hashed =
      let up : suc l ≡ l + 1 = omega arith in
      hashed ∙ ap image planned ∙ ap (risen image blocks n (passed_at log) block) up

  -- one level more is in the plan
  pub planned_more : (l : ℕ) (tree_blocks : List (List ℕ)) (new : List ℕ) → l < length tree_blocks → ((k : ℕ) → k < l → get_or tree_blocks k [] ≡ new_block image blocks n (passed_at log) block k)
      → new ≡ new_block image blocks n (passed_at log) block l → (k : ℕ) → k < l + 1 → get_or (set tree_blocks l new) k [] ≡ new_block image blocks n (passed_at log) block k
  planned_more l tree_blocks new inside so_far planned =
      below_more (λ k. get_or (set tree_blocks l new) k [] ≡ new_block image blocks n (passed_at log) block k) l
      (λ k h. let other : k ≢ l = omega arith in rw get_or-set_other (so_far k h))
      (rw get_or-set_same planned)
