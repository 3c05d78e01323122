-- SHA-256, as FIPS 180-4 defines it, with the standard's names. A word is a number below 2^32, a message a list of bytes, a block
-- 64 of them. The eight words of a hash value, H0 to H7, and the working variables a to h are one type.
use Rattle.std.specs.Prelude.{ℕ, zero, suc, ◌+◌, ◌-◌, ◌*◌, ◌/◌, ◌%◌, ◌^◌, List, [], ◌∷◌, ◌++◌, map, length, drop, replicate, fold, slice_index, bit_and, bit_or, bit_xor}
use Rattle.std.specs.Simd.{first_chunks}
use Rattle.std.specs.Int.{w32, w64, from_be_bytes, to_be_bytes}
use Rattle.digest.specs.Roots.{K, H0}
use Rattle.digest.specs.declared.variables.Variables.{Variables}

-- x + y modulo 2^32
unfoldable pub plus : ℕ → ℕ → ℕ
plus x y = (x + y) % 2 ^ 32

-- the complement of a word
unfoldable pub complement : ℕ → ℕ
complement x = 2 ^ 32 - 1 - x

-- a word turned right by n bits, 0 < n < 32: (x >> n) | (x << (32 - n))
unfoldable pub ROTR : ℕ → ℕ → ℕ
ROTR n x = bit_or (x / 2 ^ n) (x * 2 ^ (32 - n) % 2 ^ 32)

-- a word moved right by n bits
unfoldable pub SHR : ℕ → ℕ → ℕ
SHR n x = x / 2 ^ n

unfoldable pub Ch : ℕ → ℕ → ℕ → ℕ
Ch x y z = bit_xor (bit_and x y) (bit_and (complement x) z)

unfoldable pub Maj : ℕ → ℕ → ℕ → ℕ
Maj x y z = bit_xor (bit_xor (bit_and x y) (bit_and x z)) (bit_and y z)

-- the two big sigmas
unfoldable pub Σ0 : ℕ → ℕ
Σ0 x = bit_xor (bit_xor (ROTR 2 x) (ROTR 13 x)) (ROTR 22 x)

unfoldable pub Σ1 : ℕ → ℕ
Σ1 x = bit_xor (bit_xor (ROTR 6 x) (ROTR 11 x)) (ROTR 25 x)

-- the two small ones
unfoldable pub σ0 : ℕ → ℕ
σ0 x = bit_xor (bit_xor (ROTR 7 x) (ROTR 18 x)) (SHR 3 x)

unfoldable pub σ1 : ℕ → ℕ
σ1 x = bit_xor (bit_xor (ROTR 17 x) (ROTR 19 x)) (SHR 10 x)

-- the sixteen words of a block, each of four bytes, most significant first
unfoldable pub block_words : List ℕ → List ℕ
block_words block = map (from_be_bytes w32) (first_chunks 4 16 block)

-- the word after sixteen words of the message schedule: W(t + 16) from W(t) to W(t + 15)
unfoldable pub next_word : List ℕ → ℕ
next_word w = plus (plus (plus (σ1 (slice_index w 14)) (slice_index w 9)) (σ0 (slice_index w 1))) (slice_index w 0)

-- the sixteen words that begin one word later
unfoldable pub slide : List ℕ → List ℕ
slide w = drop 1 w ++ next_word w ∷ []

-- n words of the message schedule, from the first of sixteen on: W(0) to W(n - 1) if those are the words of a block
unfoldable pub schedule : ℕ → List ℕ → List ℕ
schedule zero w = []
schedule (suc n) w = slice_index w 0 ∷ schedule n (slide w)

-- one round, with its constant k and its word w of the schedule
unfoldable pub round : Variables → ℕ → ℕ → Variables
round v k w =
    let T1 : ℕ = plus (plus (plus (plus v.h (Σ1 v.e)) (Ch v.e v.f v.g)) k) w in
    let T2 : ℕ = plus (Σ0 v.a) (Maj v.a v.b v.c) in
    record { a = plus T1 T2; b = v.a; c = v.b; d = v.c; e = plus v.d T1; f = v.e; g = v.f; h = v.g }

-- a round for each word, with its constant
unfoldable pub rounds : Variables → List ℕ → List ℕ → Variables
rounds v (k ∷ ks) (w ∷ ws) = rounds (round v k w) ks ws
rounds v [] ws = v
rounds v ks [] = v

-- word by word
unfoldable pub add : Variables → Variables → Variables
add x y =
    record {
      a = plus x.a y.a;
      b = plus x.b y.b;
      c = plus x.c y.c;
      d = plus x.d y.d;
      e = plus x.e y.e;
      f = plus x.f y.f;
      g = plus x.g y.g;
      h = plus x.h y.h;
    }

-- the hash value after one more block
unfoldable pub hash_block : Variables → List ℕ → Variables
hash_block v block = add v (rounds v K (schedule 64 (block_words block)))

-- what is put after a message of n bytes: a bit 1 and bits 0, the fewest that leave room for the message's length in bits, a number
-- of 64 bits, at the end of a block. (The standard has no longer messages; of one the length counts modulo 2^64.)
unfoldable pub padding : ℕ → List ℕ
padding n = 0x80 ∷ replicate ((119 - n % 64) % 64) 0 ++ to_be_bytes w64 (n * 8 % 2 ^ 64)

-- the blocks of a list of bytes
unfoldable pub cut : List ℕ → List (List ℕ)
cut bytes = first_chunks 64 (length bytes / 64) bytes

-- the hash value before the message
unfoldable pub initial : Variables
initial =
    record {
      a = slice_index H0 0;
      b = slice_index H0 1;
      c = slice_index H0 2;
      d = slice_index H0 3;
      e = slice_index H0 4;
      f = slice_index H0 5;
      g = slice_index H0 6;
      h = slice_index H0 7;
    }

-- the hash value as 32 bytes, each word most significant byte first
unfoldable pub digest : Variables → List ℕ
digest v =
    to_be_bytes w32 v.a ++ (to_be_bytes w32 v.b ++ (to_be_bytes w32 v.c ++ (to_be_bytes w32 v.d
    ++ (to_be_bytes w32 v.e ++ (to_be_bytes w32 v.f ++ (to_be_bytes w32 v.g ++ to_be_bytes w32 v.h))))))

-- the digest of a message
unfoldable pub sha256 : List ℕ → List ℕ
sha256 m = digest (fold hash_block initial (cut (m ++ padding (length m))))

-- the cell of a block: the digest of the salt and then the block
unfoldable pub salted_cell : List ℕ → List ℕ → List ℕ
salted_cell salt block = sha256 (salt ++ block)
