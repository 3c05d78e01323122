-- Laws of words, of their bytes, and of the last word of a message.
use Rattle.std.specs.Prelude.{◌≡◌, ℕ, ◌+◌, ◌*◌, ◌/◌, ◌%◌, ◌<◌, ◌≤◌, List, [], ◌∷◌, length, take, drop, slice_index, slice_index_or}
use Rattle.std.proofs.Common.{ap, ◌∙◌, arith}
use Rattle.std.proofs.Math.Nat.{div-div-eq-div-mul}
use Rattle.std.specs.Simd.{first_chunks}
use Rattle.std.proofs.lemmas.List.{drop_more, drop_all}
use Rattle.digest.specs.SipHash.{word, bytes, k0, k1}

-- a word is its lowest byte, and 256 times the word above
pub word_more : (xs : List ℕ) (i : ℕ) → i < length xs → word (drop i xs) ≡ slice_index xs i + 256 * word (drop (i + 1) xs)
unfolding word
word_more xs i h = ap word (drop_more xs i 0 h)

pub word_none : (xs : List ℕ) (i : ℕ) → length xs ≤ i → word (drop i xs) ≡ 0
unfolding word
word_none xs i h = ap word (drop_all i xs h)

-- what `u64::from_le_bytes` gives is the word of its bytes
pub word_of_eight
    : (xs : List ℕ)
    → length xs ≡ 8
    → slice_index xs 0 + slice_index xs 1 * 256 + slice_index xs 2 * 65536 + slice_index xs 3 * 16777216 + slice_index xs 4 * 4294967296 + slice_index xs 5 * 1099511627776 + slice_index xs 6 * 281474976710656 + slice_index xs 7 * 72057594037927936
    ≡ word xs
word_of_eight xs h =
    omega (
      arith,
      word_more xs 0 (omega arith),
      word_more xs 1 (omega arith),
      word_more xs 2 (omega arith),
      word_more xs 3 (omega arith),
      word_more xs 4 (omega arith),
      word_more xs 5 (omega arith),
      word_more xs 6 (omega arith),
      word_more xs 7 (omega arith),
      word_none xs 8 (omega arith),
    )

-- what `u64::to_le_bytes` gives are the eight lowest bytes
pub eight_bytes
    : (x : ℕ)
    → (x % 256) ∷ (x / 256 % 256) ∷ (x / 65536 % 256) ∷ (x / 16777216 % 256) ∷ (x / 4294967296 % 256) ∷ (x / 1099511627776 % 256) ∷ (x / 281474976710656 % 256) ∷ (x / 72057594037927936 % 256) ∷ []
    ≡ bytes 8 x
unfolding bytes
eight_bytes x = simp div-div-eq-div-mul

-- the two words of a key
pub halves
    : (key : List ℕ) (chunks : List (List ℕ))
    → length key ≡ 16
    → chunks ≡ first_chunks 8 (length key / 8) key
    → (word (slice_index_or chunks 0 []) ≡ k0 key) × (word (slice_index_or chunks 1 []) ≡ k1 key)
unfolding k0 k1
halves key chunks h e =
    let two : chunks ≡ take 8 key ∷ take 8 (drop 8 key) ∷ [] = e ∙ ap (λ n. first_chunks 8 (n / 8) key) h in
    (ap (λ l. word (slice_index_or l 0 [])) two, ap (λ l. word (slice_index_or l 1 [])) two)
