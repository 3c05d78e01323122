-- What formatting writes: copies of a block, and the tree over blocks that are all alike but the last.
use Rattle.std.proofs.Common.{◌≡◌, ℕ, zero, suc, ◌+◌, ◌-◌, ◌*◌, ◌%◌, ◌<◌, ◌≤◌, List, [], ◌∷◌, ◌++◌, map, length, get_or, take, drop, set, replicate, sym, refl, ap, ◌∙◌, append_assoc, subst, ⊎_elim, arith, length-append, length-drop}
use Rattle.std.specs.Prelude.{Result}
use Rattle.std.proofs.lemmas.Bool.{cases_lt}
use Rattle.std.proofs.lemmas.List.{length-replicate, replicate_more, length_push, drop-append-le, take-append-le, drop-replicate, take-replicate, take_all, same_lists, get_or_append_left, get_or-replicate, get_or_push, set_at, length-take-le, length-map, map-append}
use Rattle.device.specs.declared.device.Device
use Rattle.device.specs.declared.fault.Fault.{Fault}
use Rattle.geometry.specs.Geometry.{up, total}
use Rattle.geometry.proofs.Numbers.{total_least}
use Rattle.tree.specs.Layout.{pack, root_of, side_by_side, tree_of}
use Rattle.tree.proofs.Cells.{flat, flat_padded, sixteen, length-pack, get_or-pack}
use Rattle.tree.proofs.Whole.{length-tree, tree_more, tree_one}
use Rattle.volume.specs.Format.{IsLevel, alike}
use Rattle.volume.specs.Writes.{InTurn}
use Rattle.volume.proofs.Turns.{in_turn_more}

module _ {D : Type 0} (d : Device.Ghosts D) where
  -- one copy more
  pub copied_more : (s t u : D) (before : List (List ℕ)) (block : List ℕ) (from n : ℕ) (answer : Result Unit Fault) → length before ≡ from → from ≤ n
      → InTurn d 0 (before ++ replicate (n - from) block) s t → d.writes t n block answer u → InTurn d 0 (before ++ replicate (n + 1 - from) block) s u
  copied_more s t u before block from n answer size h turn step =
      let so_far = replicate (n - from) block in
      let e : n + 1 - from ≡ n - from + 1 = omega arith in
      let same : (before ++ so_far) ++ block ∷ [] ≡ before ++ replicate (n + 1 - from) block =
      append_assoc before so_far (block ∷ []) ∙ ap (λ l. before ++ l) (replicate_more (n - from) block) ∙ ap (λ k. before ++ replicate k block) (sym e) in
      let at : n ≡ 0 + length (before ++ so_far) = omega (arith, length-append before so_far, length-replicate (n - from) block) in
      subst (λ l. InTurn d 0 l s u) same (in_turn_more d 0 n (before ++ so_far) block answer s t u turn at step)

  -- a level written, copies first
  pub level_written : (s t u : D) (before : List (List ℕ)) (count : ℕ) (others last : List ℕ) (from : ℕ) (answer : Result Unit Fault) → length before ≡ from → 1 ≤ count
      → InTurn d 0 (before ++ replicate (from + count - 1 - from) others) s t → d.writes t (from + count - 1) last answer u → InTurn d 0 (before ++ alike count others last) s u
  level_written s t u before count others last from answer size least turn step =
      let copies = replicate (from + count - 1 - from) others in
      let e : from + count - 1 - from ≡ count - 1 = omega arith in
      let same : (before ++ copies) ++ last ∷ [] ≡ before ++ alike count others last = append_assoc before copies (last ∷ []) ∙ ap (λ n. before ++ (replicate n others ++ last ∷ [])) e in
      let at : from + count - 1 ≡ 0 + length (before ++ copies) = omega (arith, length-append before copies, length-replicate (from + count - 1 - from) others) in
      subst (λ l. InTurn d 0 l s u) same (in_turn_more d 0 (from + count - 1) (before ++ copies) last answer s t u turn at step)

pub length_alike : (count : ℕ) (others last : List ℕ) → 1 ≤ count → length (alike count others last) ≡ count
length_alike count others last least = omega (arith, length_push (replicate (count - 1) others) last, length-replicate (count - 1) others)

module _ (count : ℕ) (others last : List ℕ) (least : 1 ≤ count) where
  -- the cells of a block before the last
  full_cells : (j : ℕ) → 16 * j + 16 < count → sixteen (alike count others last) j ≡ alike 16 others others
  full_cells j h =
      let before = replicate (count - 1) others in
      let size = length-replicate (count - 1) others in
      ap (take 16) (drop-append-le (16 * j) before (last ∷ []) (omega arith)) ∙ take-append-le 16 (drop (16 * j) before) (last ∷ []) (omega (arith, length-drop (16 * j) before))
      ∙ ap (take 16) (drop-replicate (16 * j) (count - 1) others) ∙ take-replicate 16 (count - 1 - 16 * j) others (omega arith)

  -- and of the last
  last_cells : (j : ℕ) → 16 * j < count → count ≤ 16 * j + 16 → sixteen (alike count others last) j ≡ alike ((count - 1) % 16 + 1) others last
  last_cells j h l =
      let before = replicate (count - 1) others in
      let size = length-replicate (count - 1) others in
      let left = drop (16 * j) before in
      let e : count - 1 - 16 * j ≡ (count - 1) % 16 + 1 - 1 = omega arith in
      ap (take 16) (drop-append-le (16 * j) before (last ∷ []) (omega arith)) ∙ take_all 16 (left ++ last ∷ []) (omega (arith, length_push left last, length-drop (16 * j) before))
      ∙ ap (λ c. c ++ last ∷ []) (drop-replicate (16 * j) (count - 1) others ∙ ap (λ n. replicate n others) e)

  -- cells that are all alike but the last fill blocks that are
  pub pack_alike : pack (alike count others last) ≡ alike (up count) (side_by_side (alike 16 others others)) (side_by_side (alike ((count - 1) % 16 + 1) others last))
  pack_alike =
      let cells = alike count others last in
      let full = side_by_side (alike 16 others others) in
      let end = side_by_side (alike ((count - 1) % 16 + 1) others last) in
      let before = replicate (up count - 1) full in
      let n : length cells ≡ count = length_alike count others last least in
      let some : 1 ≤ up count = omega arith in
      let size : length (pack cells) ≡ up count = length-pack cells ∙ ap up n in
      let reps = length-replicate (up count - 1) full in
      same_lists (pack cells) (alike (up count) full end) (size ∙ sym (length_alike (up count) full end some))
      (λ j d h.
      let inside : j < up (length cells) = omega (arith, ap up n) in
      get_or-pack cells j d inside
      ∙ ⊎_elim
      (λ low. ap side_by_side (full_cells j (omega (arith, ap up n))) ∙ sym (get_or_append_left before (end ∷ []) d j (omega arith) ∙ get_or-replicate (up count - 1) j full d low))
      (λ high. ap side_by_side (last_cells j (omega (arith, ap up n)) (omega (arith, ap up n))) ∙ sym (get_or_push before end d j (omega (arith, ap up n))))
      (cases_lt j (up count - 1)))

abbrev sixteen_zero : List (List ℕ)
sixteen_zero = replicate 16 (replicate 32 0)

-- so many cells in the place of the first of sixteen that are zero, the last of them put in after the others
pub put_alike : (count : ℕ) (others last : List ℕ) (put : List (List ℕ)) → 1 ≤ count → count ≤ 16 → put ≡ replicate (length (take (count - 1) sixteen_zero)) others
    → flat (set (put ++ drop (count - 1) sixteen_zero) (count - 1) last) ≡ side_by_side (alike count others last)
put_alike count others last put least most is =
    let zero_cell : List ℕ = replicate 32 0 in
    let some : length (take (count - 1) sixteen_zero) ≡ count - 1 = length-take-le (count - 1) sixteen_zero (omega arith) in
    let so_far : put ≡ replicate (count - 1) others = is ∙ ap (λ k. replicate k others) some in
    let rest = replicate (16 - count) zero_cell in
    let left : 16 - (count - 1) ≡ suc (16 - count) = omega arith in
    let long : length put ≡ count - 1 = ap length so_far ∙ length-replicate (count - 1) others in
    let size : length (alike count others last) ≡ count = length_alike count others last least in
    ap (λ l. flat (set (put ++ l) (count - 1) last)) (drop-replicate (count - 1) 16 zero_cell ∙ ap (λ k. replicate k zero_cell) left)
    ∙ ap flat (set_at put zero_cell rest last (count - 1) long ∙ sym (append_assoc put (last ∷ []) rest) ∙ (λ k. (so_far k ++ last ∷ []) ++ replicate {A = List ℕ} (16 - sym size k) zero_cell))
    ∙ flat_padded (alike count others last) (omega arith)

map_copies : (image : List ℕ → List ℕ) (n : ℕ) (block : List ℕ) → map image (replicate n block) ≡ replicate n (image block)
map_copies image zero block = refl
map_copies image (suc n) block = ap (λ l. image block ∷ l) (map_copies image n block)

map_alike : (image : List ℕ → List ℕ) (count : ℕ) (others last : List ℕ) → map image (alike count others last) ≡ alike count (image others) (image last)
map_alike image count others last = map-append image (replicate (count - 1) others) (last ∷ []) ∙ ap (λ l. l ++ image last ∷ []) (map_copies image (count - 1) others)

module _ {image : List ℕ → List ℕ} {contents : List (List ℕ)} {count : ℕ} {others last : List ℕ} (lv : IsLevel image contents count others last) (some : 1 ≤ count) where
  lowest_width : length (pack (map image contents)) ≡ count
  lowest_width = ap length lv.blocks ∙ length_alike count others last some

  lowest_up : up (length contents) ≡ count
  lowest_up = sym (length-pack (map image contents) ∙ ap up (length-map contents image)) ∙ lowest_width

  -- a level of one block is the tree
  pub only_level : count ≡ 1 → tree_of image contents ≡ alike count others last
  only_level one = tree_one image contents lv.least (omega (arith, lowest_up)) ∙ lv.blocks

  pub only_root : count ≡ 1 → image last ≡ root_of image contents
  unfolding root_of
  only_root one = ap image (sym (ap (λ t. get_or t 0 []) (only_level one ∙ ap (λ n. alike n others last) one)))

  -- over a level of more blocks stands the tree over that level
  module _ (more : 1 < count) where
    pub level_above : {cells end : List ℕ} {count' : ℕ} {others' last' : List ℕ} → cells ≡ image others → end ≡ image last → pack (alike count cells end) ≡ alike count' others' last'
        → IsLevel image (pack (map image contents)) count' others' last'
    level_above of_others of_last packed =
        record {
          least = omega (arith, lowest_width);
          most = omega (arith, lowest_width, lowest_up, lv.most);
          blocks = ap (λ l. pack (map image l)) lv.blocks ∙ ap pack (map_alike image count others last) ∙ (λ k. pack (alike count (sym of_others k) (sym of_last k))) ∙ packed;
        }

    pub tree_above : tree_of image contents ≡ tree_of image (pack (map image contents)) ++ alike count others last
    tree_above = tree_more image contents (omega (arith, lowest_up)) lv.most ∙ ap (λ l. tree_of image (pack (map image contents)) ++ l) lv.blocks

    pub length_above : length (tree_of image (pack (map image contents))) ≡ total count
    length_above = length-tree image (pack (map image contents)) ∙ ap total lowest_width

    pub root_above : root_of image (pack (map image contents)) ≡ root_of image contents
    unfolding root_of
    root_above =
        let upper = tree_of image (pack (map image contents)) in
        let few : 1 ≤ total count = total_least count some (omega (arith, lowest_up, lv.most)) in
        ap image (sym (ap (λ t. get_or t 0 []) tree_above ∙ get_or_append_left upper (alike count others last) [] 0 (omega (arith, length_above))))

-- the level over blocks that are all alike, from the image of one
pub level_of_copies : {image : List ℕ → List ℕ} (block : List ℕ) {cell : List ℕ} {n count : ℕ} {others last : List ℕ} → 1 ≤ n → n ≤ 4096 → cell ≡ image block → pack (alike n cell cell) ≡ alike count others last → IsLevel image (replicate n block) count others last
level_of_copies {image} block {cell} {n} least most is packed =
    let size = length-replicate n block in
    let e : n - 1 + 1 ≡ n = omega arith in
    record {
      least = omega (arith, size);
      most = omega (arith, size);
      blocks = ap pack (map_copies image n block ∙ ap (replicate n) (sym is) ∙ sym (replicate_more (n - 1) cell ∙ ap (λ k. replicate k cell) e)) ∙ packed;
    }
