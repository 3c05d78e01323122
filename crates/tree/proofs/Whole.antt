-- The whole tree, level upon level.
use Rattle.std.proofs.Common.{◌≡◌, ℕ, zero, suc, ◌<◌, ◌≤◌, List, [], ◌++◌, map, length, get_or, take, sym, refl, ap, ◌∙◌, append_assoc, append-nil, arith, length-append}
use lib.ListN.{length-map}
use Rattle.std.proofs.lemmas.List.{get_or_default, take_at}
use Rattle.geometry.specs.Geometry.{up, width, levels, lower, total}
use Rattle.geometry.proofs.Numbers.{levels_one, levels_more, total_least}
use Rattle.tree.specs.Layout.{pack, level, stacked, tree_of, root_of}
use Rattle.tree.proofs.Cells.{length-pack}

module _ (image : List ℕ → List ℕ) (bs : List (List ℕ)) where
  pub length-level : (l : ℕ) → length (level image l bs) ≡ width (length bs) l
  length-level zero = length-pack (map image bs) ∙ ap up (length-map bs image)
  length-level (suc l) = length-pack (map image (level image l bs)) ∙ ap up (length-map (level image l bs) image ∙ length-level l)

  pub length-stacked : (l : ℕ) → length (stacked image l bs) ≡ lower (length bs) l
  length-stacked zero = refl
  length-stacked (suc l) = omega (arith, length-append (level image l bs) (stacked image l bs), length-level l, length-stacked l)

  abbrev lowest : List (List ℕ)
  lowest = pack (map image bs)

  level_more : (l : ℕ) → level image (suc l) bs ≡ level image l lowest
  level_more zero = refl
  level_more (suc l) = ap (λ b. pack (map image b)) (level_more l)

  stacked_more : (l : ℕ) → stacked image (suc l) bs ≡ stacked image l lowest ++ lowest
  stacked_more zero = append-nil lowest
  stacked_more (suc l) = (λ k. level_more l k ++ stacked_more l k) ∙ sym (append_assoc (level image l lowest) (stacked image l lowest) lowest)

  -- the tree over more than sixteen blocks is the tree over their level 0, and then that level
  pub tree_more : 16 < length bs → length bs ≤ 4096 → tree_of image bs ≡ tree_of image lowest ++ lowest
  unfolding tree_of
  tree_more l h =
      ap (λ k. stacked image k bs) (levels_more (length bs) l h) ∙ stacked_more (levels (up (length bs))) ∙ ap (λ k. stacked image (levels k) lowest ++ lowest) (sym (length-level 0))

  pub tree_one : 1 ≤ length bs → length bs ≤ 16 → tree_of image bs ≡ lowest
  unfolding tree_of
  tree_one l h = ap (λ k. stacked image k bs) (levels_one (length bs) l h) ∙ append-nil lowest

pub length-tree : (image : List ℕ → List ℕ) (bs : List (List ℕ)) → length (tree_of image bs) ≡ total (length bs)
unfolding tree_of total
length-tree image bs = length-stacked image bs (levels (length bs))

-- a `Vec` of that length is the tree once its items are, and its first block gives the root
pub made_tree : (image : List ℕ → List ℕ) (bs : List (List ℕ)) (len : ℕ) (made rest : List (List ℕ)) (top root : List ℕ) → 1 ≤ length bs → length bs ≤ 4096 → len ≡ total (length bs) → made ≡ tree_of image bs
    → top ≡ get_or (take len (made ++ rest)) 0 top → root ≡ image top → (take len (made ++ rest) ≡ tree_of image bs) × (root ≡ root_of image bs)
unfolding root_of
made_tree image bs len made rest top root least most long is first hashed =
    let whole : take len (made ++ rest) ≡ tree_of image bs = take_at made rest len (ap length is ∙ length-tree image bs ∙ sym long) ∙ is in
    let some : 0 < length (tree_of image bs) = omega (arith, length-tree image bs, total_least (length bs) least most) in
    (whole, hashed ∙ ap image (first ∙ ap (λ l. get_or l 0 top) whole ∙ get_or_default (tree_of image bs) 0 top [] some))
