-- Cells packed into blocks: what one changed cell changes.
use Rattle.std.proofs.Common.{◌≡◌, ℕ, zero, suc, ◌+◌, ◌-◌, ◌*◌, ◌/◌, ◌%◌, ◌<◌, ◌≤◌, min, List, [], ◌∷◌, ◌++◌, length, get_or, take, drop, set, replicate, sym, refl, ap, ◌∙◌, subst, ⊎_elim, append_assoc, append-nil, le_of_suc-le-suc, arith, length-append, length-drop, length-set, length-take, drop-set-lt, drop_at}
use lib.Seq.{take-set-lt, take-set-le, drop-set-add, take-append-le, drop-append-le, take-append-add, drop-append-add}
use Rattle.std.proofs.lemmas.List.FromFn.{length-map-range_with_len, get_or-map-range_with_len}
use Rattle.std.proofs.lemmas.List.Concat.{flat_map-append}
use Rattle.std.proofs.lemmas.List.Elements.{All-take, All-drop}
use Rattle.std.proofs.lemmas.List.{same_lists, get_or-set_same, get_or-set_other, take_all, take_at, drop-replicate, nil_from_length, replicate-append-replicate}
use borrow.Rule.Slice.PartMut.{put_mid}
use Rattle.std.proofs.lemmas.Bool.{cases_lt, cases_order}
use Rattle.std.specs.List.{All, flat_map}
use Rattle.geometry.specs.Geometry.{up}
use Rattle.tree.specs.Layout.{side_by_side, pack, put_cell}

-- each has the length of a cell
abbrev pub Wide : List (List ℕ) → Type 0
Wide cs = All (λ c. length c ≡ 32) cs

pub wide_first : (c : List ℕ) (cs : List (List ℕ)) → Wide (c ∷ cs) → length c ≡ 32
wide_first c cs w = w 0 [] (omega arith)

pub wide_rest : (c : List ℕ) (cs : List (List ℕ)) → Wide (c ∷ cs) → Wide cs
wide_rest c cs w k d h = w (suc k) d (omega arith)

abbrev pub flat : List (List ℕ) → List ℕ
flat cs = flat_map (λ c. c) cs

pub length-flat : (cs : List (List ℕ)) → Wide cs → length (flat cs) ≡ 32 * length cs
length-flat [] w = refl
length-flat (c ∷ cs) w = omega (arith, length-append c (flat cs), wide_first c cs w, length-flat cs (wide_rest c cs w))

-- one cell of many replaced
flat_set : (cs : List (List ℕ)) (i : ℕ) (d : List ℕ) → Wide cs → i < length cs → flat (set cs i d) ≡ take (32 * i) (flat cs) ++ (d ++ drop (32 * i + 32) (flat cs))
flat_set [] i d w h = absurd (omega arith)
flat_set (c ∷ cs) zero d w h = ap (λ l. d ++ l) (sym (drop_at c (flat cs) 32 (wide_first c cs w)))
flat_set (c ∷ cs) (suc i) d w h =
    let here : 32 * suc i ≡ length c + 32 * i = omega (arith, wide_first c cs w) in
    let past : 32 * suc i + 32 ≡ length c + (32 * i + 32) = omega (arith, wide_first c cs w) in
    let front : take (32 * suc i) (c ++ flat cs) ≡ c ++ take (32 * i) (flat cs) = ap (λ n. take n (c ++ flat cs)) here ∙ take-append-add c (flat cs) (32 * i) in
    let back : drop (32 * suc i + 32) (c ++ flat cs) ≡ drop (32 * i + 32) (flat cs) = ap (λ n. drop n (c ++ flat cs)) past ∙ drop-append-add c (flat cs) (32 * i + 32) in
    ap (λ l. c ++ l) (flat_set cs i d (wide_rest c cs w) (le_of_suc-le-suc h)) ∙ sym (append_assoc c (take (32 * i) (flat cs)) (d ++ drop (32 * i + 32) (flat cs)))
    ∙ (λ k. sym front k ++ (d ++ sym back k))

-- a cell replaced in a block
side_set : (cs : List (List ℕ)) (i : ℕ) (d : List ℕ) → Wide cs → length d ≡ 32 → length cs ≤ 16 → i < length cs → side_by_side (set cs i d) ≡ put_cell (side_by_side cs) i d
unfolding side_by_side put_cell
side_set cs i d w long few h =
    let n = length-flat cs w in
    let zeros : List ℕ = replicate (512 - 32 * length cs) 0 in
    let front : take (32 * i) (flat cs ++ zeros) ≡ take (32 * i) (flat cs) = take-append-le (32 * i) (flat cs) zeros (omega arith) in
    let back : drop (32 * i + 32) (flat cs ++ zeros) ≡ drop (32 * i + 32) (flat cs) ++ zeros = drop-append-le (32 * i + 32) (flat cs) zeros (omega arith) in
    (λ k. flat_set cs i d w h k ++ replicate (512 - 32 * length-set cs i d k) 0)
    ∙ append_assoc (take (32 * i) (flat cs)) (d ++ drop (32 * i + 32) (flat cs)) zeros
    ∙ ap (λ l. take (32 * i) (flat cs) ++ l) (append_assoc d (drop (32 * i + 32) (flat cs)) zeros)
    ∙ (λ k. sym front k ++ (d ++ sym back k))

pub length-pack : (cs : List (List ℕ)) → length (pack cs) ≡ up (length cs)
unfolding pack
length-pack cs = length-map-range_with_len _ 0 (up (length cs))

-- the cells of block j
abbrev pub sixteen : List (List ℕ) → ℕ → List (List ℕ)
sixteen cs j = take 16 (drop (16 * j) cs)

pub wide_sixteen : (cs : List (List ℕ)) (j : ℕ) → Wide cs → Wide (sixteen cs j)
wide_sixteen cs j w = All-take (λ c. length c ≡ 32) 16 (drop (16 * j) cs) (All-drop (λ c. length c ≡ 32) (16 * j) cs w)

pub get_or-pack : (cs : List (List ℕ)) (j : ℕ) (e : List ℕ) → j < up (length cs) → get_or (pack cs) j e ≡ side_by_side (sixteen cs j)
unfolding pack
get_or-pack cs j e h = get_or-map-range_with_len (λ i. side_by_side (sixteen cs i)) 0 (up (length cs)) j j e h (omega arith)

-- the block that has cell n
sixteen_same : (cs : List (List ℕ)) (n : ℕ) (d : List ℕ) → sixteen (set cs n d) (n / 16) ≡ set (sixteen cs (n / 16)) (n % 16) d
sixteen_same cs n d =
    let e : n ≡ 16 * (n / 16) + n % 16 = omega arith in
    ap (λ m. take 16 (drop (16 * (n / 16)) (set cs m d))) e ∙ ap (take 16) (drop-set-add (16 * (n / 16)) cs (n % 16) d) ∙ take-set-lt 16 (drop (16 * (n / 16)) cs) (n % 16) d (omega arith)

-- any other block
sixteen_other : (cs : List (List ℕ)) (n j : ℕ) (d : List ℕ) → (j ≡ n / 16 → ⊥) → sixteen (set cs n d) j ≡ sixteen cs j
sixteen_other cs n j d ne =
    ⊎_elim (λ low. ap (take 16) (drop-set-lt (16 * j) cs n d low))
    (λ high.
    let e : n ≡ 16 * j + (n - 16 * j) = omega arith in
    let past : 16 ≤ n - 16 * j = ⊎_elim (λ s. absurd (ne (omega arith))) (λ b. omega arith) (cases_lt n (16 * j + 16)) in
    ap (λ m. take 16 (drop (16 * j) (set cs m d))) e ∙ ap (take 16) (drop-set-add (16 * j) cs (n - 16 * j) d) ∙ take-set-le 16 (drop (16 * j) cs) (n - 16 * j) d past)
    (cases_lt n (16 * j))

-- one cell replaced: one cell of one block is
-- (no contract needs it yet: it is for one block written into a volume that has its tree)
pub pack_set : (cs : List (List ℕ)) (n : ℕ) (d e : List ℕ) → Wide cs → length d ≡ 32 → n < length cs → pack (set cs n d) ≡ set (pack cs) (n / 16) (put_cell (get_or (pack cs) (n / 16) e) (n % 16) d)
pack_set cs n d e w long h =
    let blocks : up (length (set cs n d)) ≡ up (length cs) = ap up (length-set cs n d) in
    let size : length (pack (set cs n d)) ≡ up (length cs) = length-pack (set cs n d) ∙ blocks in
    let q : n / 16 < up (length cs) = omega arith in
    let new = put_cell (get_or (pack cs) (n / 16) e) (n % 16) d in
    same_lists (pack (set cs n d)) (set (pack cs) (n / 16) new) (size ∙ sym (length-set (pack cs) (n / 16) new ∙ length-pack cs))
    (λ j x lt.
    let inside : j < up (length cs) = omega (arith, size) in
    let left : get_or (pack (set cs n d)) j x ≡ side_by_side (sixteen (set cs n d) j) = get_or-pack (set cs n d) j x (omega (arith, blocks)) in
    ⊎_elim
    (λ same.
    let at : sixteen (set cs n d) j ≡ set (sixteen cs (n / 16)) (n % 16) d = ap (sixteen (set cs n d)) same ∙ sixteen_same cs n d in
    let few : length (sixteen cs (n / 16)) ≤ 16 = omega (arith, length-take 16 (drop (16 * (n / 16)) cs)) in
    let in_it : n % 16 < length (sixteen cs (n / 16)) = omega (arith, length-take 16 (drop (16 * (n / 16)) cs), length-drop (16 * (n / 16)) cs) in
    left ∙ ap side_by_side at ∙ side_set (sixteen cs (n / 16)) (n % 16) d (wide_sixteen cs (n / 16) w) long few in_it
    ∙ ap (λ b. put_cell b (n % 16) d) (sym (get_or-pack cs (n / 16) e q))
    ∙ sym (ap (λ k. get_or (set (pack cs) (n / 16) new) k x) same ∙ get_or-set_same (pack cs) (n / 16) new x (omega (arith, length-pack cs))))
    (λ other.
    let ne : j ≡ n / 16 → ⊥ = ⊎_elim (λ a s. omega arith) (λ a s. omega arith) other in
    left ∙ ap side_by_side (sixteen_other cs n j d ne) ∙ sym (get_or-set_other (pack cs) (n / 16) j new x ne ∙ get_or-pack cs j x inside))
    (cases_order j (n / 16)))

zeros_flat : (m : ℕ) → flat (replicate m (replicate 32 0)) ≡ replicate (32 * m) 0
zeros_flat zero = refl
zeros_flat (suc m) =
    let e : 32 + 32 * m ≡ 32 * suc m = omega arith in
    ap (λ l. replicate 32 0 ++ l) (zeros_flat m) ∙ replicate-append-replicate 32 (32 * m) 0 ∙ ap (λ n. replicate n 0) e

-- up to sixteen cells end to end, with cells of zeros in place of the others
pub flat_padded : (cs : List (List ℕ)) → length cs ≤ 16 → flat (cs ++ replicate (16 - length cs) (replicate 32 0)) ≡ side_by_side cs
unfolding side_by_side
flat_padded cs few =
    let e : 32 * (16 - length cs) ≡ 512 - 32 * length cs = omega arith in
    flat_map-append (λ c. c) cs (replicate (16 - length cs) (replicate 32 0)) ∙ ap (λ l. flat cs ++ l) (zeros_flat (16 - length cs) ∙ ap (λ n. replicate n 0) e)

-- a cell written after those that stand side by side
pub side_more : (cs : List (List ℕ)) (d : List ℕ) (i k : ℕ) → Wide cs → length cs ≡ i → k ≡ 32 → put_mid (32 * i) k (side_by_side cs) d ≡ side_by_side (cs ++ d ∷ [])
unfolding side_by_side
side_more cs d i k w long size =
    let zeros : List ℕ = replicate (512 - 32 * length cs) 0 in
    let rest : List ℕ = replicate (512 - 32 * length (cs ++ d ∷ [])) 0 in
    let here : length (flat cs) ≡ 32 * i = omega (arith, length-flat cs w) in
    let fewer : 512 - 32 * length cs - k ≡ 512 - 32 * length (cs ++ d ∷ []) = omega (arith, length-append cs (d ∷ [])) in
    let under : drop (32 * i) (flat cs ++ zeros) ≡ zeros = drop_at (flat cs) zeros (32 * i) here in
    let past : drop k zeros ≡ rest = subst (λ n. drop k zeros ≡ replicate n 0) fewer (drop-replicate k (512 - 32 * length cs) 0) in
    let both : flat (cs ++ d ∷ []) ≡ flat cs ++ d = flat_map-append (λ c. c) cs (d ∷ []) ∙ ap (λ l. flat cs ++ l) (append-nil d) in
    (λ j. take_at (flat cs) zeros (32 * i) here j ++ (d ++ drop k (under j))) ∙ ap (λ l. flat cs ++ (d ++ l)) past ∙ sym (append_assoc (flat cs) d rest) ∙ ap (λ l. l ++ rest) (sym both)

-- the first block has the first sixteen cells, or all where there are fewer
next_block : (cs ds : List (List ℕ)) → length cs ≡ min 16 (length (cs ++ ds)) → (j : ℕ) (e : List ℕ) → j < up (length (cs ++ ds)) → get_or (pack (cs ++ ds)) j e ≡ get_or (side_by_side cs ∷ pack ds) j e
next_block cs ds size zero e h =
    let all : take 16 (cs ++ ds) ≡ cs =
    ⊎_elim
    (λ few.
    let none : ds ≡ [] = nil_from_length ds (omega (arith, length-append cs ds)) in
    ap (λ l. take 16 (cs ++ l)) none ∙ take_all 16 (cs ++ []) (omega (arith, length-append cs [])) ∙ append-nil cs)
    (λ many. take_at cs ds 16 (omega arith)) (cases_lt (length (cs ++ ds)) 16) in
    get_or-pack (cs ++ ds) 0 e h ∙ ap side_by_side all
next_block cs ds size (suc j) e h =
    let long : length cs ≡ 16 = omega arith in
    let at : 16 * suc j ≡ length cs + 16 * j = omega arith in
    get_or-pack (cs ++ ds) (suc j) e h ∙ ap (λ l. side_by_side (take 16 l)) (ap (λ n. drop n (cs ++ ds)) at ∙ drop-append-add cs ds (16 * j))
    ∙ sym (get_or-pack ds j e (omega (arith, length-append cs ds)))

pub pack_next : (cs ds : List (List ℕ)) → 0 < length (cs ++ ds) → length cs ≡ min 16 (length (cs ++ ds)) → pack (cs ++ ds) ≡ side_by_side cs ∷ pack ds
pack_next cs ds some size =
    same_lists (pack (cs ++ ds)) (side_by_side cs ∷ pack ds) (omega (arith, length-append cs ds, length-pack (cs ++ ds), length-pack ds))
    (λ j e h. next_block cs ds size j e (omega (arith, length-pack (cs ++ ds))))
