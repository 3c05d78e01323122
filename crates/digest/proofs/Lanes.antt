-- Vectors of four words, and the message schedule four words at a time.
use Rattle.std.specs.Prelude.{◌≡◌, ℕ, zero, suc, ◌+◌, ◌-◌, ◌*◌, ◌/◌, ◌%◌, ◌^◌, ◌<◌, List, [], ◌∷◌, ◌++◌, map, drop, take, length, slice_index, slice_index_or, bit_or, bit_xor}
use Rattle.std.proofs.Common.{refl, ap, sym, ◌∙◌, arith}
use Rattle.std.proofs.Math.ListN.{get_or-map}
use Rattle.std.specs.Int.{w32, from_be_bytes}
use Rattle.std.specs.Simd.{first_chunks}
use Rattle.std.specs.Simd.Lanes.{zip2}
use Rattle.digest.specs.Sha256.{ROTR, SHR, block_words, plus, next_word, slide, σ0, σ1}

-- what holds of each list of four words
pub four : (P : List ℕ → Type 0) → ((a b c d : ℕ) → P (a ∷ b ∷ c ∷ d ∷ [])) → (xs : List ℕ) → length xs ≡ 4 → P xs
four P p (a ∷ b ∷ c ∷ d ∷ []) h = p a b c d
four P p [] h = absurd (omega (arith, h))
four P p (a ∷ []) h = absurd (omega (arith, h))
four P p (a ∷ b ∷ []) h = absurd (omega (arith, h))
four P p (a ∷ b ∷ c ∷ []) h = absurd (omega (arith, h))
four P p (a ∷ b ∷ c ∷ d ∷ e ∷ xs) h = absurd (omega (arith, h))

-- each word of x moved by a function of it and n
abbrev by : (ℕ → ℕ → ℕ) → List ℕ → ℕ → List ℕ
by f x n = zip2 f x (n ∷ n ∷ n ∷ n ∷ [])

abbrev right : ℕ → ℕ → ℕ
right x n = x / 2 ^ n

abbrev left : ℕ → ℕ → ℕ
left x n = x * 2 ^ n % 2 ^ 32

-- two shifts and an or turn each word
pub turned : (n : ℕ) → 0 < n → n < 32 → (x : List ℕ) → length x ≡ 4 → zip2 bit_or (by right x n) (by left x (32 - n)) ≡ map (ROTR n) x
unfolding ROTR
turned n low high = four _ (λ a b c d. refl)

pub small0 : (x : List ℕ) → length x ≡ 4 → zip2 bit_xor (zip2 bit_xor (map (ROTR 7) x) (map (ROTR 18) x)) (by right x 3) ≡ map σ0 x
unfolding SHR σ0
small0 = four _ (λ a b c d. refl)

-- a sum of four words in another order
share : (a s c t : ℕ) → plus (plus (plus a s) c) t ≡ plus (plus (plus t c) s) a
unfolding plus
share a s c t = omega arith

-- the same with nothing added as the last or as the fourth
share_last : (a s c t : ℕ) → plus (plus (plus (plus a s) c) t) 0 ≡ plus (plus (plus t c) s) a
unfolding plus
share_last a s c t = omega arith

share_first : (a s c t : ℕ) → plus (plus (plus (plus a s) c) 0) t ≡ plus (plus (plus t c) s) a
unfolding plus
share_first a s c t = omega arith

-- the four words one way and another
abbrev sum : List ℕ → List ℕ → List ℕ
sum = zip2 plus

-- words i to i + 3 of a list
abbrev pub from : ℕ → List ℕ → List ℕ
from i xs = slice_index_or xs i 0 ∷ slice_index_or xs (i + 1) 0 ∷ slice_index_or xs (i + 2) 0 ∷ slice_index_or xs (i + 3) 0 ∷ []

-- the shares of the words two places before, of which those of the last two come from the first two
abbrev half : List ℕ → List ℕ → List ℕ → List ℕ → List ℕ
half w0 w1 w2 w3 =
    sum (sum (sum w0 (map σ0 (from 1 (w0 ++ w1)))) (from 1 (w2 ++ w3))) (σ1 (slice_index_or (w3 ++ w3) 2 0) ∷ σ1 (slice_index_or (w3 ++ w3) 3 0) ∷ 0 ∷ 0 ∷ [])

abbrev whole : List ℕ → List ℕ → List ℕ → List ℕ → List ℕ
whole w0 w1 w2 w3 =
    let h = half w0 w1 w2 w3 in
    sum h (0 ∷ 0 ∷ σ1 (slice_index_or h 0 0) ∷ σ1 (slice_index_or h 1 0) ∷ [])

abbrev Next : List ℕ → List ℕ → List ℕ → List ℕ → Type 0
Next w0 w1 w2 w3 = w1 ++ (w2 ++ (w3 ++ whole w0 w1 w2 w3)) ≡ slide (slide (slide (slide (w0 ++ (w1 ++ (w2 ++ w3))))))

next_lanes : (a0 a1 a2 a3 b0 b1 b2 b3 c0 c1 c2 c3 d0 d1 d2 d3 : ℕ) → Next (a0 ∷ a1 ∷ a2 ∷ a3 ∷ []) (b0 ∷ b1 ∷ b2 ∷ b3 ∷ []) (c0 ∷ c1 ∷ c2 ∷ c3 ∷ []) (d0 ∷ d1 ∷ d2 ∷ d3 ∷ [])
unfolding slide next_word
next_lanes a0 a1 a2 a3 b0 b1 b2 b3 c0 c1 c2 c3 d0 d1 d2 d3 =
    rw (
      share_last a0 (σ0 a1) c1 (σ1 d2),
      share_last a1 (σ0 a2) c2 (σ1 d3),
      share a0 (σ0 a1) c1 (σ1 d2),
      share a1 (σ0 a2) c2 (σ1 d3),
      share_first a2 (σ0 a3) c3 (σ1 (plus (plus (plus (σ1 d2) c1) (σ0 a1)) a0)),
      share_first a3 (σ0 b0) d0 (σ1 (plus (plus (plus (σ1 d3) c2) (σ0 a2)) a1)),
    )
    refl

-- the four words after sixteen
pub next : (w0 : List ℕ) → length w0 ≡ 4 → (w1 : List ℕ) → length w1 ≡ 4 → (w2 : List ℕ) → length w2 ≡ 4 → (w3 : List ℕ) → length w3 ≡ 4 → Next w0 w1 w2 w3
next =
    four _ (λ a0 a1 a2 a3.
    four _ (λ b0 b1 b2 b3.
    four _ (λ c0 c1 c2 c3.
    four _ (λ d0 d1 d2 d3. next_lanes a0 a1 a2 a3 b0 b1 b2 b3 c0 c1 c2 c3 d0 d1 d2 d3))))

-- four words of a block, and all sixteen as four times four
pub four_of
    : (block : List ℕ) (i : ℕ)
    → i < 4
    → from (4 * i) (block_words block) ≡ take 4 (drop (4 * i) (block_words block))
unfolding block_words
four_of block zero h = refl
four_of block (suc zero) h = refl
four_of block (suc (suc zero)) h = refl
four_of block (suc (suc (suc zero))) h = refl
four_of block (suc (suc (suc (suc i)))) h = absurd (omega (arith, h))

pub sixteen
    : (block : List ℕ)
    → take 4 (block_words block) ++ (take 4 (drop 4 (block_words block)) ++ (take 4 (drop 8 (block_words block)) ++ take 4 (drop 12 (block_words block))))
    ≡ block_words block
unfolding block_words
sixteen block = refl

-- a word of a block, from its chunks of four bytes
pub word_at
    : (block : List ℕ) (chunks : List (List ℕ))
    → length block ≡ 64
    → chunks ≡ first_chunks 4 (length block / 4) block
    → (i : ℕ)
    → from_be_bytes w32 (slice_index_or chunks i []) ≡ slice_index (block_words block) i
unfolding block_words
word_at block chunks h e i =
    ap (λ l. from_be_bytes w32 (slice_index_or l i [])) (e ∙ ap (λ n. first_chunks 4 (n / 4) block) h)
    ∙ sym (get_or-map (from_be_bytes w32) (first_chunks 4 16 block) i [])
