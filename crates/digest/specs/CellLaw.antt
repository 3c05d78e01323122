-- The law of a cell, which an impl of `Hash` shows of its images: a ghost member may cite a lemma of specs/ alone.
use Rattle.std.specs.Prelude.{◌≡◌, ℕ, zero, suc, ◌+◌, ◌/◌, ◌<◌, ◌≤◌, List, [], ◌∷◌, ◌++◌, fold, length, replicate, slice_index, refl}
use Rattle.std.proofs.Common.{ap, ⊎_elim, arith, length-append}
use Rattle.std.proofs.lemmas.Bool.{cases_lt}
use Rattle.std.proofs.lemmas.List.{get_or_append_left, length-replicate}
use Rattle.digest.specs.Cell.{IsCell}
use Rattle.std.specs.Int.{w32, to_be_bytes}
use Rattle.digest.specs.Sha256.{cut, digest, hash_block, initial, padding, sha256}
use Rattle.digest.specs.SipHash.{bytes}
use Rattle.digest.specs.declared.variables.Variables.{Variables}

-- each byte of a number is one
pub bytes_lt : (n x i : ℕ) → slice_index (bytes n x) i < 256
unfolding bytes
bytes_lt zero x i = omega arith
bytes_lt (suc n) x zero = omega arith
bytes_lt (suc n) x (suc i) = bytes_lt n (x / 256) i

pub length-bytes : (n x : ℕ) → length (bytes n x) ≡ n
unfolding bytes
length-bytes zero x = refl
length-bytes (suc n) x = ap suc (length-bytes n (x / 256))

-- zeros past the end of a list
pub zeros_past : (xs : List ℕ) (n i : ℕ) → length xs ≤ i → slice_index (xs ++ replicate n 0) i ≡ 0
zeros_past [] zero i h = refl
zeros_past [] (suc n) zero h = refl
zeros_past [] (suc n) (suc i) h = zeros_past [] n i (omega arith)
zeros_past (x ∷ xs) n zero h = absurd (omega arith)
zeros_past (x ∷ xs) n (suc i) h = zeros_past xs n i (omega arith)

-- k bytes and then zeros are the cell of a hash of k bytes
pub bytes_cell : (k n x : ℕ) → k + n ≡ 32 → IsCell k (bytes k x ++ replicate n 0)
bytes_cell k n x h =
    let long = length-bytes k x in
    record {
      long = simp (length-append, length-replicate) (omega arith);
      bytes = λ i. ⊎_elim
          (λ below. rw (get_or_append_left (bytes k x) (replicate n 0) 0 i (omega arith)) (bytes_lt k x i))
          (λ past. omega (arith, zeros_past (bytes k x) n i (omega arith)))
          (cases_lt i k);
      zero_tail = λ i past. zeros_past (bytes k x) n i (omega arith);
    }

-- each number of the list is a byte
record AreBytes (xs : List ℕ) : Type 0 where
  pub below : (i : ℕ) → slice_index xs i < 256

joined_below : (xs ys : List ℕ) → AreBytes xs → AreBytes ys → (i : ℕ) → slice_index (xs ++ ys) i < 256
joined_below [] ys hx hy i = hy.below i
joined_below (x ∷ xs) ys hx hy zero = hx.below zero
joined_below (x ∷ xs) ys hx hy (suc i) = joined_below xs ys (record { below = λ j. hx.below (suc j) }) hy i

joined : {xs ys : List ℕ} → AreBytes xs → AreBytes ys → AreBytes (xs ++ ys)
joined {xs} {ys} hx hy = record { below = joined_below xs ys hx hy }

-- nothing stands past the end of a list
none_past : (xs : List ℕ) (i : ℕ) → length xs ≤ i → slice_index xs i ≡ 0
none_past [] i h = refl
none_past (x ∷ xs) zero h = absurd (omega (arith, h))
none_past (x ∷ xs) (suc i) h = none_past xs i (omega (arith, h))

-- the four bytes of a word
word_below : (x i : ℕ) → slice_index (to_be_bytes w32 x) i < 256
word_below x zero = omega arith
word_below x (suc zero) = omega arith
word_below x (suc (suc zero)) = omega arith
word_below x (suc (suc (suc zero))) = omega arith
word_below x (suc (suc (suc (suc i)))) = omega arith

word_bytes : (x : ℕ) → AreBytes (to_be_bytes w32 x)
word_bytes x = record { below = word_below x }

digest_bytes : (v : Variables) → AreBytes (digest v)
unfolding digest
digest_bytes v =
    joined (word_bytes v.a) (joined (word_bytes v.b) (joined (word_bytes v.c) (joined (word_bytes v.d)
    (joined (word_bytes v.e) (joined (word_bytes v.f) (joined (word_bytes v.g) (word_bytes v.h)))))))

-- a digest is the cell of a hash of 32 bytes
pub digest_cell : (m : List ℕ) → IsCell 32 (sha256 m)
unfolding sha256 digest
digest_cell m =
    record {
      long = refl;
      bytes = (digest_bytes (fold hash_block initial (cut (m ++ padding (length m))))).below;
      zero_tail = λ i past. none_past (sha256 m) i past;
    }
