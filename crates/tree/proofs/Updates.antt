-- One data block written anew: what that changes in the tree and its root, told from below.
use Rattle.std.proofs.Common.{◌≡◌, ℕ, zero, suc, ◌+◌, ◌-◌, ◌/◌, ◌%◌, ◌^◌, ◌<◌, ◌≤◌, List, [], ◌++◌, map, length, get_or, set, sym, refl, ap, ◌∙◌, append_assoc, pow-suc, div-one, arith, length-append, length-set}
use native.Mathlib.Nat.{div-div-eq-div-mul}
use lib.ListN.{length-map}
use Rattle.std.proofs.lemmas.List.{get_or-map, get_or-set_same, map-set, set-append_left, set-append_right}
use Rattle.std.specs.Prelude.{slice_index_or}
use Rattle.geometry.specs.Geometry.{levels, lower, total, start, place}
use Rattle.geometry.proofs.Numbers.{levels_least, place_inside, place_top, start_split}
use Rattle.tree.specs.Layout.{pack, put_cell, level, stacked, tree_of, root_of}
use Rattle.tree.specs.Paths.{cell_at, true_part, risen, new_block}
use Rattle.tree.proofs.Cells.{pack_set}
use Rattle.tree.proofs.Levels.{wide_images}
use Rattle.tree.proofs.Paths.{in_tree, pack_cell}
use Rattle.tree.proofs.Whole.{length-level}

-- the blocks of the tree device, of which the lowest l levels have been written on the way of data block k
abbrev pub written_up : (List ℕ → List ℕ) → ℕ → ℕ → (ℕ → List ℕ) → List ℕ → List (List ℕ) → ℕ → List (List ℕ)
written_up image n k old block tree zero = tree
written_up image n k old block tree (suc l) = set (written_up image n k old block tree l) (place n l k).0 (new_block image n k old block l)

-- each level takes the block number sixteen to one
one_up : (k l : ℕ) → k / 16 ^ suc l ≡ k / 16 ^ l / 16
one_up k l = ap (λ p. k / p) (pow-suc 16 l) ∙ sym (div-div-eq-div-mul k (16 ^ l) 16)

-- a write leaves the tree device as long as it was
pub length-written_up : (image : List ℕ → List ℕ) (n k : ℕ) (old : ℕ → List ℕ) (b : List ℕ) (tree : List (List ℕ)) (l : ℕ) → length (written_up image n k old b tree l) ≡ length tree
length-written_up image n k old b tree zero = refl
length-written_up image n k old b tree (suc l) = length-set (written_up image n k old b tree l) (place n l k).0 (new_block image n k old b l) ∙ length-written_up image n k old b tree l

module _ (image : List ℕ → List ℕ) (n k : ℕ) (b : List ℕ) (old seen : ℕ → List ℕ) where
  -- what rises to level l goes by the old blocks of the levels below l
  pub risen_agree : (l : ℕ) → ((m : ℕ) → m < l → old m ≡ seen m) → risen image n k old b l ≡ risen image n k seen b l
  risen_agree zero same = refl
  risen_agree (suc l) same = λ i. image (put_cell (same l (omega arith) i) (place n l k).1 (risen_agree l (λ m h. same m (omega arith)) i))

  -- the lowest l levels are written by the old blocks of those levels
  pub written_agree : (tree : List (List ℕ)) (l : ℕ) → ((m : ℕ) → m < l → old m ≡ seen m) → written_up image n k old b tree l ≡ written_up image n k seen b tree l
  written_agree tree zero same = refl
  written_agree tree (suc l) same =
      let below : (m : ℕ) → m < l → old m ≡ seen m = λ m h. same m (omega arith) in
      λ i. set (written_agree tree l below i) (place n l k).0 (put_cell (same l (omega arith) i) (place n l k).1 (risen_agree l below i))

-- what stands truly in the tree block of each level on the way of data block k
abbrev pub old_part : (List ℕ → List ℕ) → List (List ℕ) → ℕ → ℕ → List ℕ
old_part image bs k l = true_part image bs k (suc l)

module _ (image : List ℕ → List ℕ) (wide : (block : List ℕ) → length (image block) ≡ 32) where
  -- a cell of the level over some blocks, at the place of data block k
  cell_up : (xs : List (List ℕ)) (k l : ℕ) → k / 16 ^ l < length xs → cell_at (get_or (pack (map image xs)) (k / 16 ^ suc l) []) (k / 16 ^ l % 16) ≡ image (get_or xs (k / 16 ^ l) [])
  cell_up xs k l h =
      ap (λ j. cell_at (get_or (pack (map image xs)) j []) (k / 16 ^ l % 16)) (one_up k l)
      ∙ pack_cell (map image xs) (k / 16 ^ l) (wide_images image wide xs) (omega (arith, length-map xs image)) ∙ get_or-map image xs (k / 16 ^ l) [] [] h

  -- one block below replaced: one cell of one block above is
  set_up : (xs : List (List ℕ)) (v : List ℕ) (n k l : ℕ) → k / 16 ^ l < length xs
      → pack (map image (set xs (k / 16 ^ l) v)) ≡ set (pack (map image xs)) (k / 16 ^ suc l) (put_cell (get_or (pack (map image xs)) (k / 16 ^ suc l) []) (place n l k).1 (image v))
  unfolding place
  set_up xs v n k l h =
      let i = k / 16 ^ l in
      let cells = map image xs in
      ap pack (map-set image xs i v) ∙ pack_set cells i (image v) [] (wide_images image wide xs) (wide v) (omega (arith, length-map xs image))
      ∙ ap (λ j. set (pack cells) j (put_cell (get_or (pack cells) j []) (i % 16) (image v))) (sym (one_up k l))

  module _ (bs : List (List ℕ)) (least : 1 ≤ length bs) (most : length bs ≤ 4096) (k : ℕ) (inside : k < length bs) where
    on_level : (l : ℕ) → k / 16 ^ suc l < length (level image l bs)
    on_level l = omega (arith, length-level image bs l, place_inside (length bs) l k least inside)

    on_bottom : k / 16 ^ 0 < length bs
    on_bottom = omega (arith, div-one k)

    -- the part on the way stands at its place on the tree device
    pub true_in_tree : (l : ℕ) → l < levels (length bs) → slice_index_or (tree_of image bs) (place (length bs) l k).0 [] ≡ true_part image bs k (suc l)
    unfolding place
    true_in_tree l h = in_tree image wide bs least l (k / 16 ^ suc l) h (place_inside (length bs) l k least inside)

    -- the part on the way has at its cell the image of the part below it
    pub true_cell : (l : ℕ) → cell_at (true_part image bs k (suc l)) (place (length bs) l k).1 ≡ image (true_part image bs k l)
    unfolding place
    true_cell zero = cell_up bs k 0 on_bottom ∙ ap (λ j. image (get_or bs j [])) (div-one k)
    true_cell (suc l) = cell_up (level image l bs) k (suc l) (on_level l)

    root_at : (m : ℕ) → suc m ≡ levels (length bs) → root_of image bs ≡ image (true_part image bs k (suc m))
    unfolding root_of
    root_at m e =
        ap (λ j. image (get_or (tree_of image bs) j [])) (sym (place_top (length bs) m k least most e inside)) ∙ ap image (true_in_tree m (omega arith))

    -- the root is the image of the top part
    pub true_root : root_of image bs ≡ image (true_part image bs k (levels (length bs)))
    true_root =
        let e : suc (levels (length bs) - 1) ≡ levels (length bs) = omega (arith, levels_least (length bs) least most) in
        root_at (levels (length bs) - 1) e ∙ ap (λ m. image (true_part image bs k m)) e

    -- a data block replaced: one block of each level is
    pub level_set : (b : List ℕ) (l : ℕ) → level image l (set bs k b) ≡ set (level image l bs) (k / 16 ^ suc l) (new_block image (length bs) k (old_part image bs k) b l)
    level_set b zero = ap (λ j. pack (map image (set bs j b))) (sym (div-one k)) ∙ set_up bs b (length bs) k 0 on_bottom
    level_set b (suc l) =
        ap (λ xs. pack (map image xs)) (level_set b l) ∙ set_up (level image l bs) (new_block image (length bs) k (old_part image bs k) b l) (length bs) k (suc l) (on_level l)

    -- the new block of a level is the part on the way afterwards
    pub true_set : (b : List ℕ) (l : ℕ) → true_part image (set bs k b) k (suc l) ≡ new_block image (length bs) k (old_part image bs k) b l
    true_set b l =
        ap (λ xs. get_or xs (k / 16 ^ suc l) []) (level_set b l)
        ∙ get_or-set_same (level image l bs) (k / 16 ^ suc l) (new_block image (length bs) k (old_part image bs k) b l) [] (on_level l)

    -- a block of the level that stands after some blocks of the tree device and before the levels below it
    set_mid : (front rest : List (List ℕ)) (b : List ℕ) (m : ℕ) → m < levels (length bs) → length front + lower (length bs) (suc m) ≡ total (length bs)
        → set ((front ++ level image m bs) ++ rest) (place (length bs) m k).0 (new_block image (length bs) k (old_part image bs k) b m) ≡ front ++ (level image m (set bs k b) ++ rest)
    unfolding place
    set_mid front rest b m h long =
        let n = length bs in
        let here = level image m bs in
        let j = k / 16 ^ suc m in
        let new = new_block image n k (old_part image bs k) b m in
        let starts : start n m ≡ length front = omega (arith, start_split n m h) in
        let at : start n m + j - length front ≡ j = omega arith in
        set-append_left (front ++ here) rest (start n m + j) new (omega (arith, length-append front here, on_level m))
        ∙ ap (λ l. l ++ rest) (set-append_right front here (length front) (start n m + j) new refl (omega arith) ∙ ap (λ i. front ++ set here i new) at ∙ ap (λ l. front ++ l) (sym (level_set b m)))
        ∙ append_assoc front (level image m (set bs k b)) rest

    -- the levels below level m written, whatever stands before them
    stacked_set : (b : List ℕ) (m : ℕ) (front : List (List ℕ)) → m ≤ levels (length bs) → length front + lower (length bs) m ≡ total (length bs)
        → written_up image (length bs) k (old_part image bs k) b (front ++ stacked image m bs) m ≡ front ++ stacked image m (set bs k b)
    stacked_set b zero front h long = refl
    stacked_set b (suc m) front h long =
        let n = length bs in
        let here = level image m bs in
        let below : written_up image n k (old_part image bs k) b ((front ++ here) ++ stacked image m bs) m ≡ (front ++ here) ++ stacked image m (set bs k b) =
        stacked_set b m (front ++ here) (omega arith) (omega (arith, length-append front here, length-level image bs m)) in
        ap (λ l. set l (place n m k).0 (new_block image n k (old_part image bs k) b m)) (ap (λ tree. written_up image n k (old_part image bs k) b tree m) (sym (append_assoc front here (stacked image m bs))) ∙ below)
        ∙ set_mid front (stacked image m (set bs k b)) b m h long

    -- the tree over the blocks with one replaced is the tree with its levels written
    pub tree_set : (b : List ℕ) → tree_of image (set bs k b) ≡ written_up image (length bs) k (old_part image bs k) b (tree_of image bs) (levels (length bs))
    unfolding tree_of total
    tree_set b = ap (λ n. stacked image (levels n) (set bs k b)) (length-set bs k b) ∙ sym (stacked_set b (levels (length bs)) [] (omega arith) (omega arith))

  module _ (bs : List (List ℕ)) (least : 1 ≤ length bs) (most : length bs ≤ 4096) (k : ℕ) (inside : k < length bs) where
    -- the root over the blocks with one replaced is what has risen through all levels
    pub root_set : (b : List ℕ) → root_of image (set bs k b) ≡ risen image (length bs) k (old_part image bs k) b (levels (length bs))
    root_set b =
        let size = length-set bs k b in
        let top : suc (levels (length bs) - 1) ≡ levels (length bs) = omega (arith, levels_least (length bs) least most) in
        true_root (set bs k b) (omega (arith, size)) (omega (arith, size)) k (omega (arith, size))
        ∙ ap (λ n. image (true_part image (set bs k b) k (levels n))) size
        ∙ ap (λ m. image (true_part image (set bs k b) k m)) (sym top)
        ∙ ap image (true_set bs least most k inside b (levels (length bs) - 1))
        ∙ ap (risen image (length bs) k (old_part image bs k) b) top
