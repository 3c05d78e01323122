-- Laws of the tree's numbers, for 1 to 4096 data blocks.
use Rattle.std.proofs.Common.{◌≡◌, ℕ, zero, suc, ◌+◌, ◌-◌, ◌*◌, ◌/◌, ◌%◌, ◌^◌, ◌<◌, ◌≤◌, max, sum_by, sym, refl, ap, ◌∙◌, subst, ⊎_elim, le_trans, pow-suc, le-div_iff_mul-le, div-mul-le_self, add-one, add-zero, arith, pow_pos, pow_mono, pow-add}
use native.Mathlib.Nat.{div-div-eq-div-mul}
use Rattle.std.specs.Int.{div_ceil}
use Rattle.std.specs.List.{range_with_len}
use Rattle.std.proofs.lemmas.List.Sums.{sum_by-cons}
use lib.Count.{count_leading_zeros, leading_length}
use Rattle.std.proofs.lemmas.Bool.{cases_lt, le-leb, lt-leb, cond-true, cond-false}
use Rattle.geometry.specs.Geometry.{up, width, packings, levels, lower, total, above, start, place}

-- one packing is the last where at most sixteen are left
packings_last : (f n : ℕ) → n ≤ 16 → packings (suc f) n ≡ 1
packings_last f n h = ap suc (cond-true _ 0 _ (le-leb (up n) 1 (omega arith)))

packings_more : (f n : ℕ) → 16 < n → packings (suc f) n ≡ suc (packings f (up n))
packings_more f n h = ap suc (cond-false _ 0 _ (lt-leb (up n) 1 (omega arith)))

pub levels_one : (n : ℕ) → 1 ≤ n → n ≤ 16 → levels n ≡ 1
unfolding levels
levels_one (suc f) l h = packings_last f (suc f) h
levels_one zero l h = absurd (omega arith)

pub levels_two : (n : ℕ) → 16 < n → n ≤ 256 → levels n ≡ 2
unfolding levels
levels_two (suc (suc f)) l h = packings_more (suc f) (suc (suc f)) l ∙ ap suc (packings_last f (up (suc (suc f))) (omega arith))
levels_two (suc zero) l h = absurd (omega arith)
levels_two zero l h = absurd (omega arith)

pub levels_three : (n : ℕ) → 256 < n → n ≤ 4096 → levels n ≡ 3
unfolding levels
levels_three (suc (suc (suc f))) l h =
    packings_more (suc (suc f)) (suc (suc (suc f))) (omega arith)
    ∙ ap suc (packings_more (suc f) (up (suc (suc (suc f)))) (omega arith) ∙ ap suc (packings_last f (up (up (suc (suc (suc f))))) (omega arith)))
levels_three (suc (suc zero)) l h = absurd (omega arith)
levels_three (suc zero) l h = absurd (omega arith)
levels_three zero l h = absurd (omega arith)

-- a property of the number of levels, by the three sizes of tree
pub by_size : (P : ℕ → Type 0) (n : ℕ) → 1 ≤ n → n ≤ 4096 → (n ≤ 16 → P 1) → (16 < n → n ≤ 256 → P 2) → (256 < n → P 3) → P (levels n)
by_size P n l h one two three =
    ⊎_elim
    (λ s. subst P (sym (levels_one n l (omega arith))) (one (omega arith)))
    (λ m. ⊎_elim (λ s. subst P (sym (levels_two n (omega arith) (omega arith))) (two (omega arith) (omega arith))) (λ b. subst P (sym (levels_three n (omega arith) h)) (three (omega arith))) (cases_lt n 257))
    (cases_lt n 17)

pub levels_least : (n : ℕ) → 1 ≤ n → n ≤ 4096 → 1 ≤ levels n
levels_least n l h = by_size (λ k. 1 ≤ k) n l h (λ _. omega arith) (λ _ _. omega arith) (λ _. omega arith)

pub levels_most : (n : ℕ) → 1 ≤ n → n ≤ 4096 → levels n ≤ 3
levels_most n l h = by_size (λ k. k ≤ 3) n l h (λ _. omega arith) (λ _ _. omega arith) (λ _. omega arith)

-- over more than sixteen blocks stands level 0, and then the tree over that level
pub levels_more : (n : ℕ) → 16 < n → n ≤ 4096 → levels n ≡ suc (levels (up n))
levels_more n l h =
    ⊎_elim (λ s. levels_two n l (omega arith) ∙ ap suc (sym (levels_one (up n) (omega arith) (omega arith))))
    (λ b. levels_three n (omega arith) h ∙ ap suc (sym (levels_two (up n) (omega arith) (omega arith)))) (cases_lt n 257)

width_more : (n l : ℕ) → width n (suc l) ≡ width (up n) l
width_more n zero = refl
width_more n (suc l) = ap up (width_more n l)

lower_more : (n l : ℕ) → lower n (suc l) ≡ lower (up n) l + up n
lower_more n zero = omega arith
lower_more n (suc l) = omega (arith, width_more n l, lower_more n l)

pub total_more : (n : ℕ) → 16 < n → n ≤ 4096 → total n ≡ total (up n) + up n
unfolding total
total_more n l h = ap (lower n) (levels_more n l h) ∙ lower_more n (levels (up n))

pub total_one : (n : ℕ) → 1 ≤ n → n ≤ 16 → total n ≡ 1
unfolding total
total_one n l h = ap (lower n) (levels_one n l h) ∙ omega arith

-- a number of m digits below 2 ^ j has at most j, and one that is not has more
digits_most : (a m j : ℕ) → a < 2 ^ j → 2 ^ m ≤ 2 * a + 1 → m ≤ j
digits_most a m j h l =
    ⊎_elim (λ s. omega arith) (λ b. let p : 2 ^ suc j ≤ 2 ^ m = pow_mono b in absurd (omega (arith, p, pow-suc 2 j))) (cases_lt m (suc j))

digits_least : (a m j : ℕ) → 2 ^ j ≤ a → a < 2 ^ m → j < m
digits_least a m j l h = ⊎_elim (λ s. s) (λ b. let p : 2 ^ m ≤ 2 ^ j = pow_mono b in absurd (omega (arith, p))) (cases_lt j m)

-- the number of levels from the bit length of n - 1
pub levels_from_bits : (n : ℕ) → 1 ≤ n → n ≤ 4096 → levels n ≡ max (div_ceil (64 - count_leading_zeros 64 (n - 1)) 4) 1
levels_from_bits n l h =
    let bits = leading_length 64 (n - 1) (omega arith) in
    let m : ℕ = bits.0 in
    let is : 64 - count_leading_zeros 64 (n - 1) ≡ m = omega (arith, bits.1) in
    subst (λ b. levels n ≡ max (div_ceil b 4) 1) (sym is)
    (by_size (λ k. k ≡ max (div_ceil m 4) 1) n l h
    (λ s. omega (arith, digits_most (n - 1) m 4 (omega arith) bits.3))
    (λ b s. omega (arith, digits_most (n - 1) m 8 (omega arith) bits.3, digits_least (n - 1) m 4 (omega arith) bits.2))
    (λ b. omega (arith, digits_most (n - 1) m 12 (omega arith) bits.3, digits_least (n - 1) m 8 (omega arith) bits.2)))

-- a width without its recursion
pub width_is : (n l : ℕ) → 1 ≤ n → width n l ≡ (n - 1) / 16 ^ suc l + 1
width_is n zero h = omega arith
width_is n (suc l) h =
    let below : width n l ≡ (n - 1) / 16 ^ suc l + 1 = width_is n l h in
    let halves : (n - 1) / 16 ^ suc l / 16 ≡ (n - 1) / 16 ^ suc (suc l) = div-div-eq-div-mul (n - 1) (16 ^ suc l) 16 ∙ ap (λ p. (n - 1) / p) (sym (pow-suc 16 (suc l))) in
    omega (arith, below, halves)

pub sixteens : (l : ℕ) → 2 ^ (4 * l) ≡ 16 ^ l
sixteens zero = refl
sixteens (suc l) =
    let e : 4 * suc l ≡ 4 * l + 4 = omega arith in
    ap (λ k. 2 ^ k) e ∙ pow-add 2 (4 * l) 4 ∙ ap (λ p. p * 16) (sixteens l) ∙ sym (pow-suc 16 l)

-- shifting by four bits for each level
pub width_shifted : (n l : ℕ) → 1 ≤ n → (n - 1) / 2 ^ (4 * l + 4) + 1 ≡ width n l
width_shifted n l h =
    let e : 2 ^ (4 * l + 4) ≡ 16 ^ suc l = pow-add 2 (4 * l) 4 ∙ ap (λ p. p * 16) (sixteens l) ∙ sym (pow-suc 16 l) in
    ap (λ p. (n - 1) / p + 1) e ∙ sym (width_is n l h)

-- widths fall, so they are small
pub width_most : (n l : ℕ) → 1 ≤ n → n ≤ 4096 → width n l ≤ 256
width_most n zero l h = omega arith
width_most n (suc k) l h = omega (arith, width_most n k l h)

-- the top has one block
pub top_width : (n l : ℕ) → 1 ≤ n → n ≤ 4096 → suc l ≡ levels n → width n l ≡ 1
top_width n l least most e =
    by_size (λ k. suc l ≡ k → width n l ≡ 1) n least most
    (λ s e. let z : l ≡ 0 = omega arith in ap (width n) z ∙ omega arith)
    (λ b s e. let z : l ≡ 1 = omega arith in ap (width n) z ∙ omega arith)
    (λ b e. let z : l ≡ 2 = omega arith in ap (width n) z ∙ omega arith) e

pub lower_mono : (n l m : ℕ) → l ≤ m → lower n l ≤ lower n m
lower_mono n l zero h = let z : l ≡ 0 = omega arith in subst (λ k. lower n k ≤ 0) (sym z) (omega arith)
lower_mono n l (suc m) h = ⊎_elim (λ s. omega (arith, lower_mono n l m (omega arith))) (λ b. let z : l ≡ suc m = omega arith in subst (λ k. lower n k ≤ lower n (suc m)) (sym z) (omega arith)) (cases_lt l (suc m))

pub lower_most : (n l : ℕ) → 1 ≤ n → n ≤ 4096 → l ≤ 3 → lower n l ≤ 256 * l
lower_most n zero least most h = omega arith
lower_most n (suc l) least most h = omega (arith, lower_most n l least most (omega arith), width_most n l least most)

pub total_most : (n : ℕ) → 1 ≤ n → n ≤ 4096 → total n ≤ 768
unfolding total
total_most n least most = let few = levels_most n least most in omega (arith, lower_most n (levels n) least most few)

-- what the levels from l on have, and those below it
pub above_split : (n l : ℕ) → l ≤ levels n → above n l + lower n l ≡ total n
unfolding total
above_split n l h = omega (arith, lower_mono n l (levels n) h)

pub above_most : (n l : ℕ) → 1 ≤ n → n ≤ 4096 → above n l ≤ 768
above_most n l least most = omega (arith, total_most n least most)

-- the widths of m levels from level l on
sum_widths : (n l m : ℕ) → sum_by (width n) (range_with_len l m) + lower n l ≡ lower n (l + m)
sum_widths n l zero = omega (arith, ap (lower n) (add-zero l))
sum_widths n l (suc m) =
    let e : l + 1 + m ≡ l + suc m = omega arith in
    omega (arith, sum_by-cons (width n) l (range_with_len (l + 1) m), sum_widths n (l + 1) m, ap (lower n) e, ap (lower n) (add-one l))

pub above_is : (n l top : ℕ) → top ≡ levels n → l ≤ top → sum_by (width n) (range_with_len l (top - l)) ≡ above n l
unfolding total
above_is n l top is h =
    let e : l + (top - l) ≡ levels n = omega arith in
    omega (arith, sum_widths n l (top - l), ap (lower n) e)

-- a level lies after all levels above it and before those below it
pub start_split : (n l : ℕ) → l < levels n → start n l + lower n (suc l) ≡ total n
start_split n l h = omega (arith, above_split n (suc l) h, ap (above n) (add-one l))

pub start_top : (n l : ℕ) → suc l ≡ levels n → start n l ≡ 0
unfolding total
start_top n l e = omega (arith, ap (lower n) (add-one l ∙ e))

pub total_split : (n : ℕ) → 1 ≤ n → n ≤ 4096 → start n 0 + up n ≡ total n
total_split n least most = omega (arith, start_split n 0 (levels_least n least most))

pub total_least : (n : ℕ) → 1 ≤ n → n ≤ 4096 → 1 ≤ total n
total_least n least most = omega (arith, total_split n least most)

-- each level takes four bits of the block number
pub place_shifted : (n l k : ℕ) → place n l k ≡ (start n l + k / 2 ^ (4 * l) / 16, k / 2 ^ (4 * l) % 16)
unfolding place
place_shifted n l k =
    let e = sixteens l in
    let far : k / 16 ^ suc l ≡ k / 2 ^ (4 * l) / 16 = ap (λ p. k / p) (pow-suc 16 l) ∙ sym (div-div-eq-div-mul k (16 ^ l) 16) ∙ ap (λ p. k / p / 16) (sym e) in
    (λ i. (start n l + far i, k / sym e i % 16))

-- the block of level l that has a data block's place is one of the level's
div_mono : (m n l : ℕ) → m ≤ n → m / 16 ^ l ≤ n / 16 ^ l
div_mono m n l h =
    let some : 0 < 16 ^ l = subst (λ p. 0 < p) (sixteens l) (pow_pos (4 * l)) in
    (le-div_iff_mul-le some).1 (le_trans (div-mul-le_self m (16 ^ l)) h)

pub place_inside : (n l k : ℕ) → 1 ≤ n → k < n → k / 16 ^ suc l < width n l
place_inside n l k least h = omega (arith, width_is n l least, div_mono k (n - 1) (suc l) (omega arith))

-- at the top that is block 0 of the tree device
pub place_top : (n l k : ℕ) → 1 ≤ n → n ≤ 4096 → suc l ≡ levels n → k < n → (place n l k).0 ≡ 0
unfolding place
place_top n l k least most last h = omega (arith, start_top n l last, place_inside n l k least h, top_width n l least most last)
