-- The places of a data block lead up to the root.
use Rattle.std.proofs.Common.{◌≡◌, ℕ, zero, suc, ◌+◌, ◌-◌, ◌*◌, ◌/◌, ◌%◌, ◌^◌, ◌<◌, ◌≤◌, List, [], ◌∷◌, ◌++◌, map, length, get_or, take, drop, replicate, sym, ap, ◌∙◌, subst, ⊎_elim, le_of_suc-le-suc, pow-suc, div-one, add-one, arith, length-drop, length-take}
use native.Mathlib.Nat.{div-div-eq-div-mul}
use lib.ListN.{length-map}
use lib.Seq.{drop-append-add}
use Rattle.std.proofs.lemmas.List.{get_or_append_left, get_or-append_right, get_or-take, get_or-drop, get_or-map, take-append-le, drop-append-le, take_at}
use Rattle.std.proofs.lemmas.Bool.{cases_lt}
use Rattle.geometry.specs.Geometry.{width, levels, lower, total, above, start, place}
use Rattle.tree.specs.Layout.{side_by_side, pack, level, stacked, tree_of, root_of}
use Rattle.tree.specs.Paths.{cell_at, cell_of, LeadUp}
use Rattle.tree.proofs.Cells.{Wide, flat, sixteen, wide_first, wide_rest, wide_sixteen, length-flat, get_or-pack}
use Rattle.tree.proofs.Levels.{wide_images}
use Rattle.geometry.proofs.Numbers.{lower_mono, levels_least, place_inside, place_top}
use Rattle.tree.proofs.Whole.{length-level}

flat_cell : (cs : List (List ℕ)) (r : ℕ) → Wide cs → r < length cs → take 32 (drop (32 * r) (flat cs)) ≡ get_or cs r []
flat_cell [] r w h = absurd (omega arith)
flat_cell (c ∷ cs) zero w h = take_at c (flat cs) 32 (wide_first c cs w)
flat_cell (c ∷ cs) (suc r) w h =
    let past : 32 * suc r ≡ length c + 32 * r = omega (arith, wide_first c cs w) in
    ap (λ n. take 32 (drop n (c ++ flat cs))) past ∙ ap (take 32) (drop-append-add c (flat cs) (32 * r)) ∙ flat_cell cs r (wide_rest c cs w) (le_of_suc-le-suc h)

side_cell : (cs : List (List ℕ)) (r : ℕ) → Wide cs → r < length cs → cell_at (side_by_side cs) r ≡ get_or cs r []
unfolding cell_at side_by_side
side_cell cs r w h =
    let n = length-flat cs w in
    let zeros : List ℕ = replicate (512 - 32 * length cs) 0 in
    ap (take 32) (drop-append-le (32 * r) (flat cs) zeros (omega arith)) ∙ take-append-le 32 (drop (32 * r) (flat cs)) zeros (omega (arith, length-drop (32 * r) (flat cs))) ∙ flat_cell cs r w h

-- a cell of a level that packs cells
pub pack_cell : (cs : List (List ℕ)) (i : ℕ) → Wide cs → i < length cs → cell_at (get_or (pack cs) (i / 16) []) (i % 16) ≡ get_or cs i []
pack_cell cs i w h =
    let q = i / 16 in
    let r = i % 16 in
    let at : 16 * q + r ≡ i = omega arith in
    let inside : r < length (sixteen cs q) = omega (arith, length-take 16 (drop (16 * q) cs), length-drop (16 * q) cs) in
    ap (λ b. cell_at b r) (get_or-pack cs q [] (omega arith)) ∙ side_cell (sixteen cs q) r (wide_sixteen cs q w) inside
    ∙ get_or-take 16 (drop (16 * q) cs) r [] (omega arith) ∙ get_or-drop (16 * q) cs r [] ∙ ap (λ n. get_or cs n []) at

module _ (image : List ℕ → List ℕ) (wide : (block : List ℕ) → length (image block) ≡ 32) where
  -- a cell of the level over some blocks
  level_cell : (bs : List (List ℕ)) (i : ℕ) → i < length bs → cell_at (get_or (pack (map image bs)) (i / 16) []) (i % 16) ≡ image (get_or bs i [])
  level_cell bs i h = pack_cell (map image bs) i (wide_images image wide bs) (omega (arith, length-map bs image)) ∙ get_or-map image bs i [] [] h

  module _ (bs : List (List ℕ)) (least : 1 ≤ length bs) where
    -- a block of level l in the levels below level m, the highest first
    in_stack : (m l j : ℕ) → l < m → j < width (length bs) l → get_or (stacked image m bs) (lower (length bs) m - lower (length bs) (suc l) + j) [] ≡ get_or (level image l bs) j []
    in_stack zero l j h inside = absurd (omega arith)
    in_stack (suc m) l j h inside =
        let n = length bs in
        let w = length-level image bs m in
        ⊎_elim
        (λ below.
        let e : lower n (suc m) - lower n (suc l) + j - width n m ≡ lower n m - lower n (suc l) + j = omega (arith, lower_mono n (suc l) m below) in
        get_or-append_right (level image m bs) (stacked image m bs) (width n m) (lower n (suc m) - lower n (suc l) + j) [] w (omega (arith, lower_mono n (suc l) m below))
        ∙ ap (λ k. get_or (stacked image m bs) k []) e ∙ in_stack m l j below inside)
        (λ here.
        let same : l ≡ m = omega arith in
        let e : lower n (suc m) - lower n (suc l) + j ≡ j = omega (arith, ap (λ k. lower n (suc k)) same) in
        ap (λ k. get_or (level image m bs ++ stacked image m bs) k []) e
        ∙ get_or_append_left (level image m bs) (stacked image m bs) [] j (omega (arith, w, ap (width n) same)) ∙ ap (λ k. get_or (level image k bs) j []) (sym same))
        (cases_lt l m)

    -- a block of level l in the tree
    pub in_tree : (l j : ℕ) → l < levels (length bs) → j < width (length bs) l → get_or (tree_of image bs) (start (length bs) l + j) [] ≡ get_or (level image l bs) j []
    unfolding tree_of total
    in_tree l j h inside = ap (λ k. get_or (tree_of image bs) (above (length bs) k + j) []) (add-one l) ∙ in_stack (levels (length bs)) l j h inside

    -- where data block k has its place at level l, and in which block
    at_place : (l k : ℕ) → l < levels (length bs) → k < length bs → get_or (tree_of image bs) (place (length bs) l k).0 [] ≡ get_or (level image l bs) (k / 16 ^ suc l) []
    unfolding place
    at_place l k h inside = in_tree l (k / 16 ^ suc l) h (place_inside (length bs) l k least inside)

    cell_there : (l k : ℕ) → l < levels (length bs) → k < length bs
        → cell_of (tree_of image bs) (place (length bs) l k) ≡ cell_at (get_or (level image l bs) (k / 16 ^ l / 16) []) (k / 16 ^ l % 16)
    unfolding place
    cell_there l k h inside =
        let e : k / 16 ^ suc l ≡ k / 16 ^ l / 16 = ap (λ p. k / p) (pow-suc 16 l) ∙ sym (div-div-eq-div-mul k (16 ^ l) 16) in
        ap (λ b. cell_at b (k / 16 ^ l % 16)) (at_place l k h inside ∙ ap (λ j. get_or (level image l bs) j []) e)

    pub lead_up : length bs ≤ 4096 → LeadUp image bs (tree_of image bs) (root_of image bs)
    unfolding root_of
    lead_up most k inside = record {
      bottom =
          let one : k / 16 ^ 0 ≡ k = div-one k in
          cell_there 0 k (levels_least (length bs) least most) inside ∙ (λ i. cell_at (get_or (level image 0 bs) (one i / 16) []) (one i % 16)) ∙ level_cell bs k inside;
      between = λ l more.
          cell_there (suc l) k more inside ∙ level_cell (level image l bs) (k / 16 ^ suc l) (omega (arith, length-level image bs l, place_inside (length bs) l k least inside))
          ∙ ap image (sym (at_place l k (omega arith) inside));
      top = λ l last.
          let only : (place (length bs) l k).0 ≡ 0 = place_top (length bs) l k least most last inside in
          ap (λ j. image (get_or (tree_of image bs) j [])) (sym only);
    }

  -- so do those in whatever is the tree and the root
  pub leads_there : (bs tree : List (List ℕ)) (root : List ℕ) → 1 ≤ length bs → length bs ≤ 4096 → (tree ≡ tree_of image bs) × (root ≡ root_of image bs) → LeadUp image bs tree root
  leads_there bs tree root least most is =
      let P : List (List ℕ) × List ℕ → Type 0 = λ p. LeadUp image bs p.0 p.1 in
      subst P (λ i. (sym is.0 i, sym is.1 i)) (lead_up bs least most)
