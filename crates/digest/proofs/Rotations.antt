-- Words turned right: the sigmas of SHA-256 as the code has them. What a turn does is shown bit by bit.
use Rattle.std.specs.Prelude.{◌≡◌, ℕ, zero, suc, ◌+◌, ◌-◌, ◌*◌, ◌/◌, ◌%◌, ◌^◌, ◌<◌, ◌≤◌, List, [], ◌∷◌, ◌++◌, length, slice_index, bit_xor}
use Rattle.std.specs.Int.{bit_at, w32}
use Rattle.std.specs.Int.Bits.{xor_assoc}
use Rattle.std.specs.Simd.Lanes.{Each1, digits_l, number_l, pick_l, zip2}
use Rattle.std.proofs.Common.{Fits, ap, sym, ◌∙◌, ⊎_elim, arith, pow-suc}
use Rattle.std.proofs.lemmas.Bool.{cases_lt}
use Rattle.std.proofs.lemmas.Nat.{mod_below, or_lt, pow_pos, shr-shr, shr_le, shr_split, xor_lt, xor_mod}
use Rattle.std.proofs.lemmas.Nat.Bits.{bit_at-zero, bit_at_above, bit_at_cat_high, bit_at_cat_low, bit_at_or, bit_at_xor, same_from_bits_below}
use Rattle.digest.proofs.Lanes.{four}
use Rattle.digest.specs.Sha256.{ROTR, SHR, Σ0, Σ1, σ1}

-- a word turned is a word
ROTR-lt : (n x : ℕ) → x < 2 ^ 32 → ROTR n x < 2 ^ 32
unfolding ROTR
ROTR-lt n x fits = or_lt 32 (x / 2 ^ n) (x * 2 ^ (32 - n) % 2 ^ 32) (omega (arith, shr_le x n)) (mod_below _ (2 ^ 32) (pow_pos 32))

-- bit i of x moved right by n is x's bit n + i
bit_at-shr : (x n i : ℕ) → bit_at (x / 2 ^ n) i ≡ bit_at x (n + i)
bit_at-shr x n i = ap (λ y. y % 2) (shr-shr x n i)

-- the low k bits of x are its bits below k
bit_at-low : (x k i : ℕ) → i < k → bit_at (x % 2 ^ k) i ≡ bit_at x i
bit_at-low x k i low = sym (bit_at_cat_low (x / 2 ^ k) k (x % 2 ^ k) i low) ∙ ap (λ y. bit_at y i) (shr_split x k)

-- x moved left by k: zeros below k, and from k on the bits of x
bit_at-shl_low : (x k i : ℕ) → i < k → bit_at (x * 2 ^ k) i ≡ 0
bit_at-shl_low x k i low =
    let e : x * 2 ^ k ≡ x * 2 ^ k + 0 = omega arith in
    ap (λ y. bit_at y i) e ∙ bit_at_cat_low x k 0 i low ∙ bit_at-zero i

bit_at-shl_high : (x k i : ℕ) → k ≤ i → bit_at (x * 2 ^ k) i ≡ bit_at x (i - k)
bit_at-shl_high x k i high =
    let e : x * 2 ^ k ≡ x * 2 ^ k + 0 = omega arith in
    ap (λ y. bit_at y i) e ∙ bit_at_cat_high x k 0 i (pow_pos k) high

-- bit i of a word turned right by n is the word's bit n + i, counted round
bit_at-ROTR : (n x i : ℕ) → n < 32 → x < 2 ^ 32 → i < 32 → bit_at (ROTR n x) i ≡ bit_at x ((n + i) % 32)
unfolding ROTR
bit_at-ROTR n x i small fits low =
    let left : bit_at (x * 2 ^ (32 - n) % 2 ^ 32) i ≡ bit_at (x * 2 ^ (32 - n)) i = bit_at-low _ 32 i low in
    bit_at_or (x / 2 ^ n) (x * 2 ^ (32 - n) % 2 ^ 32) i
    ∙ ⊎_elim
    (λ near.
    let none : bit_at (x * 2 ^ (32 - n) % 2 ^ 32) i ≡ 0 = left ∙ bit_at-shl_low x (32 - n) i (omega arith) in
    let round : n + i ≡ (n + i) % 32 = omega arith in
    omega (arith, bit_at-shr x n i, none, ap (bit_at x) round))
    (λ far.
    let none : bit_at (x / 2 ^ n) i ≡ 0 = bit_at-shr x n i ∙ bit_at_above x 32 (n + i) fits far in
    let round : i - (32 - n) ≡ (n + i) % 32 = omega arith in
    omega (arith, none, left, bit_at-shl_high x (32 - n) i (omega arith), ap (bit_at x) round))
    (cases_lt (n + i) 32)

-- a xor turned is the xor of the two turned
ROTR-xor : (n x y : ℕ) → n < 32 → x < 2 ^ 32 → y < 2 ^ 32 → ROTR n (bit_xor x y) ≡ bit_xor (ROTR n x) (ROTR n y)
ROTR-xor n x y small hx hy =
    let hxy : bit_xor x y < 2 ^ 32 = xor_lt 32 x y hx hy in
    same_from_bits_below 32 _ _ (ROTR-lt n _ hxy) (xor_lt 32 _ _ (ROTR-lt n x hx) (ROTR-lt n y hy)) (λ i low.
    bit_at-ROTR n (bit_xor x y) i small hxy low
    ∙ bit_at_xor x y ((n + i) % 32)
    ∙ sym (bit_at_xor (ROTR n x) (ROTR n y) i ∙ (λ j. (bit_at-ROTR n x i small hx low j + bit_at-ROTR n y i small hy low j) % 2)))

-- turned by b and then by a is turned by a + b
ROTR-ROTR : (a b x : ℕ) → a + b < 32 → x < 2 ^ 32 → ROTR a (ROTR b x) ≡ ROTR (a + b) x
ROTR-ROTR a b x small fits =
    same_from_bits_below 32 _ _ (ROTR-lt a _ (ROTR-lt b x fits)) (ROTR-lt (a + b) x fits) (λ i low.
    let round : (b + (a + i) % 32) % 32 ≡ (a + b + i) % 32 = omega arith in
    bit_at-ROTR a (ROTR b x) i (omega arith) (ROTR-lt b x fits) low
    ∙ bit_at-ROTR b x ((a + i) % 32) (omega arith) fits (omega arith)
    ∙ ap (bit_at x) round ∙ sym (bit_at-ROTR (a + b) x i small fits low))

-- a word written twice, in 64 bits
abbrev twice : ℕ → ℕ
twice x = x * 2 ^ 32 + x

-- its bits
bit_at-twice : (x i : ℕ) → x < 2 ^ 32 → i < 64 → bit_at (twice x) i ≡ bit_at x (i % 32)
bit_at-twice x i fits low =
    ⊎_elim
    (λ lower. let round : i ≡ i % 32 = omega arith in bit_at_cat_low x 32 x i lower ∙ ap (bit_at x) round)
    (λ upper. let round : i - 32 ≡ i % 32 = omega arith in bit_at_cat_high x 32 x i fits upper ∙ ap (bit_at x) round)
    (cases_lt i 32)

-- the low word of a word written twice and moved right by n is the word turned
twice_moved : (n x : ℕ) → n < 32 → x < 2 ^ 32 → twice x / 2 ^ n % 2 ^ 32 ≡ ROTR n x
twice_moved n x small fits =
    same_from_bits_below 32 _ _ (mod_below _ (2 ^ 32) (pow_pos 32)) (ROTR-lt n x fits) (λ i low.
    bit_at-low _ 32 i low
    ∙ bit_at-shr _ n i
    ∙ bit_at-twice x (n + i) fits (omega arith)
    ∙ sym (bit_at-ROTR n x i small fits low))

-- three turns of x under xor, each inside the one before
nested : (a b c x : ℕ) → a + (b + c) < 32 → x < 2 ^ 32
    → ROTR a (bit_xor x (ROTR b (bit_xor x (ROTR c x)))) ≡ bit_xor (bit_xor (ROTR a x) (ROTR (a + b) x)) (ROTR (a + (b + c)) x)
nested a b c x small fits =
    let near : ROTR b x < 2 ^ 32 = ROTR-lt b x fits in
    let far : ROTR (b + c) x < 2 ^ 32 = ROTR-lt (b + c) x fits in
    rw (
      ROTR-xor b x (ROTR c x) (omega arith) fits (ROTR-lt c x fits),
      ROTR-ROTR b c x (omega arith) fits,
      ROTR-xor a x (bit_xor (ROTR b x) (ROTR (b + c) x)) (omega arith) fits (xor_lt 32 _ _ near far),
      ROTR-xor a (ROTR b x) (ROTR (b + c) x) (omega arith) near far,
      ROTR-ROTR a b x (omega arith) fits,
      ROTR-ROTR a (b + c) x small fits,
    )
    (sym (xor_assoc (ROTR a x) (ROTR (a + b) x) (ROTR (a + (b + c)) x)))

-- the two big sigmas with their turns nested
pub big0 : (x : ℕ) → x < 2 ^ 32 → ROTR 2 (bit_xor x (ROTR 11 (bit_xor x (ROTR 9 x)))) ≡ Σ0 x
unfolding Σ0
big0 x = nested 2 11 9 x (omega arith)

pub big1 : (x : ℕ) → x < 2 ^ 32 → ROTR 6 (bit_xor x (ROTR 5 (bit_xor x (ROTR 14 x)))) ≡ Σ1 x
unfolding Σ1
big1 x = nested 6 5 14 x (omega arith)

-- a number below 256 ^ n is what its n bytes spell, the least first
spelled : (n x : ℕ) → x < 256 ^ n → number_l 256 (digits_l 256 n x) ≡ x
spelled zero x fits = omega arith
spelled (suc n) x fits =
    let rest : x / 256 < 256 ^ n = omega (arith, pow-suc 256 n) in
    rw (spelled n (x / 256) rest) (omega arith)

-- the bytes of a list of words, read as two of 64 bits, and those of a list of 64 bits, read as four words
abbrev widen : List ℕ → List ℕ
widen x = digits_l (2 ^ 64) 2 (number_l 256 (digits_l 256 16 (number_l (2 ^ 32) x)))

abbrev narrow : List ℕ → List ℕ
narrow x = digits_l (2 ^ 32) 4 (number_l 256 (digits_l 256 16 (number_l (2 ^ 64) x)))

-- two words, each twice, are each one of 64 bits
widen_twice : (a b : ℕ) → a < 2 ^ 32 → b < 2 ^ 32 → widen (a ∷ a ∷ b ∷ b ∷ []) ≡ twice a ∷ twice b ∷ []
widen_twice a b ha hb =
    let n : ℕ = number_l (2 ^ 32) (a ∷ a ∷ b ∷ b ∷ []) in
    let low : n % 2 ^ 64 ≡ twice a = omega arith in
    let high : n / 2 ^ 64 % 2 ^ 64 ≡ twice b = omega arith in
    ap (digits_l (2 ^ 64) 2) (spelled 16 n (omega arith)) ∙ (λ j. low j ∷ high j ∷ [])

-- two of 64 bits are four words, of each the low one first
narrow_two : (x y : ℕ) → x < 2 ^ 64 → y < 2 ^ 64 → narrow (x ∷ y ∷ []) ≡ x % 2 ^ 32 ∷ x / 2 ^ 32 ∷ y % 2 ^ 32 ∷ y / 2 ^ 32 ∷ []
narrow_two x y hx hy =
    let n : ℕ = number_l (2 ^ 64) (x ∷ y ∷ []) in
    let x0 : n % 2 ^ 32 ≡ x % 2 ^ 32 = omega arith in
    let x1 : n / 2 ^ 32 % 2 ^ 32 ≡ x / 2 ^ 32 = omega arith in
    let y0 : n / 2 ^ 32 / 2 ^ 32 % 2 ^ 32 ≡ y % 2 ^ 32 = omega arith in
    let y1 : n / 2 ^ 32 / 2 ^ 32 / 2 ^ 32 % 2 ^ 32 ≡ y / 2 ^ 32 = omega arith in
    ap (digits_l (2 ^ 32) 4) (spelled 16 n (omega arith)) ∙ (λ j. x0 j ∷ x1 j ∷ y0 j ∷ y1 j ∷ [])

-- x moved right by n
abbrev right : ℕ → ℕ → ℕ
right x n = x / 2 ^ n

-- two of 64 bits, each moved right by 17 and by 19
abbrev moved : List ℕ → List ℕ
moved x = zip2 bit_xor (zip2 right x (17 ∷ 17 ∷ [])) (zip2 right x (19 ∷ 19 ∷ []))

-- the first and the third of four words, each xor its one of four others moved right by 10, and zeros
abbrev with_moved : List ℕ → List ℕ → List ℕ
with_moved x y = pick_l 0 (zip2 bit_xor x (zip2 right y (10 ∷ 10 ∷ 10 ∷ 10 ∷ [])) ++ 0 ∷ 0 ∷ 0 ∷ 0 ∷ []) (0 ∷ 2 ∷ 4 ∷ 5 ∷ [])

-- the first two of four words, each twice
abbrev first_twice : List ℕ → List ℕ
first_twice x = pick_l 0 (x ++ x) (0 ∷ 0 ∷ 1 ∷ 1 ∷ [])

-- the low word of a word written twice, moved right by 17 and by 19
moved_low : (x : ℕ) → x < 2 ^ 32 → bit_xor (twice x / 2 ^ 17) (twice x / 2 ^ 19) % 2 ^ 32 ≡ bit_xor (ROTR 17 x) (ROTR 19 x)
moved_low x fits = xor_mod _ _ 32 ∙ (λ j. bit_xor (twice_moved 17 x (omega arith) fits j) (twice_moved 19 x (omega arith) fits j))

-- 64 bits moved right by 17 and by 19 are 64 bits
moved-lt : (x : ℕ) → x < 2 ^ 64 → bit_xor (x / 2 ^ 17) (x / 2 ^ 19) < 2 ^ 64
moved-lt x fits = xor_lt 64 (x / 2 ^ 17) (x / 2 ^ 19) (omega arith) (omega arith)

-- what the code makes of four words: their first two moved as 64 bits, and the low halves
abbrev first_two : List ℕ → List ℕ
first_two x = with_moved (narrow (moved (widen (first_twice x)))) (first_twice x)

first_two_lanes : (a b c d : ℕ) → a < 2 ^ 32 → b < 2 ^ 32 → first_two (a ∷ b ∷ c ∷ d ∷ []) ≡ σ1 a ∷ σ1 b ∷ 0 ∷ 0 ∷ []
unfolding σ1 SHR
first_two_lanes a b c d ha hb =
    let y : List ℕ = a ∷ a ∷ b ∷ b ∷ [] in
    ap (λ v. with_moved (narrow (moved v)) y) (widen_twice a b ha hb)
    ∙ ap (λ v. with_moved v y) (narrow_two _ _ (moved-lt (twice a) (omega arith)) (moved-lt (twice b) (omega arith)))
    ∙ (λ j. bit_xor (moved_low a ha j) (a / 2 ^ 10) ∷ bit_xor (moved_low b hb j) (b / 2 ^ 10) ∷ 0 ∷ 0 ∷ [])

-- it is σ1 of the first two
pub small1_first_two : (x : List ℕ) → length x ≡ 4 → Each1 (Fits w32) x → first_two x ≡ σ1 (slice_index x 0) ∷ σ1 (slice_index x 1) ∷ 0 ∷ 0 ∷ []
small1_first_two = four _ (λ a b c d fits. first_two_lanes a b c d fits.0.fits fits.1.0.fits)
