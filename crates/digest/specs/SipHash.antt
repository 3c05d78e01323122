-- SipHash-2-4, as Aumasson and Bernstein define it: c = 2 rounds for a word of the message, d = 4 at the end.
-- A word is a number below 2^64; bytes stand least significant first.
use Rattle.std.specs.Prelude.{ℕ, zero, suc, ◌+◌, ◌-◌, ◌*◌, ◌/◌, ◌%◌, ◌^◌, List, [], ◌∷◌, ◌++◌, map, length, take, drop, replicate, fold, bit_or, bit_xor}
use Rattle.std.specs.Simd.{first_chunks}
use Rattle.digest.specs.declared.siphash.State.{State}

-- x + y modulo 2^64
unfoldable pub plus : ℕ → ℕ → ℕ
plus x y = (x + y) % 2 ^ 64

-- x <<< b: (x << b) | (x >> (64 - b)), for 0 < b < 64
unfoldable pub rotl : ℕ → ℕ → ℕ
rotl x b = bit_or ((x * 2 ^ b) % 2 ^ 64) (x / 2 ^ (64 - b))

-- the number whose bytes these are
unfoldable pub word : List ℕ → ℕ
word [] = 0
word (x ∷ xs) = x + 256 * word xs

-- the n lowest bytes of a number
unfoldable pub bytes : ℕ → ℕ → List ℕ
bytes zero x = []
bytes (suc n) x = x % 256 ∷ bytes n (x / 256)

-- the two halves of the key
unfoldable pub k0 : List ℕ → ℕ
k0 key = word (take 8 key)

unfoldable pub k1 : List ℕ → ℕ
k1 key = word (take 8 (drop 8 key))

-- v0 to v3 before the message
unfoldable pub initial : List ℕ → State
initial key =
    record {
      v0 = bit_xor (k0 key) 0x736f6d6570736575;
      v1 = bit_xor (k1 key) 0x646f72616e646f6d;
      v2 = bit_xor (k0 key) 0x6c7967656e657261;
      v3 = bit_xor (k1 key) 0x7465646279746573;
    }

-- one round, a line for each of its 14 steps
unfoldable pub SipRound : State → State
SipRound s =
    let v0 : ℕ = plus s.v0 s.v1 in
    let v1 : ℕ = rotl s.v1 13 in
    let v1 : ℕ = bit_xor v1 v0 in
    let v0 : ℕ = rotl v0 32 in
    let v2 : ℕ = plus s.v2 s.v3 in
    let v3 : ℕ = rotl s.v3 16 in
    let v3 : ℕ = bit_xor v3 v2 in
    let v0 : ℕ = plus v0 v3 in
    let v3 : ℕ = rotl v3 21 in
    let v3 : ℕ = bit_xor v3 v0 in
    let v2 : ℕ = plus v2 v1 in
    let v1 : ℕ = rotl v1 17 in
    let v1 : ℕ = bit_xor v1 v2 in
    let v2 : ℕ = rotl v2 32 in
    record { v0 = v0; v1 = v1; v2 = v2; v3 = v3 }

-- a word m of the message: v3 ^= m, two rounds, v0 ^= m
unfoldable pub compress : State → ℕ → State
compress s m =
    let t : State = SipRound (SipRound (record { v0 = s.v0; v1 = s.v1; v2 = s.v2; v3 = bit_xor s.v3 m })) in
    record { v0 = bit_xor t.v0 m; v1 = t.v1; v2 = t.v2; v3 = t.v3 }

-- the end: v2 ^= 0xff, four rounds, and v0 ^ v1 ^ v2 ^ v3
unfoldable pub finalize : State → ℕ
finalize s =
    let t : State = SipRound (SipRound (SipRound (SipRound (record { v0 = s.v0; v1 = s.v1; v2 = bit_xor s.v2 0xff; v3 = s.v3 })))) in
    bit_xor (bit_xor (bit_xor t.v0 t.v1) t.v2) t.v3

-- the whole words of a message of b bytes, which are b / 8
unfoldable pub whole_words : List ℕ → List ℕ
whole_words m = map word (first_chunks 8 (length m / 8) m)

-- its last word: the b % 8 bytes that are left over, null bytes, and a byte with b modulo 256
unfoldable pub last_word : List ℕ → ℕ
last_word m =
    word (drop (length m / 8 * 8) m ++ replicate (7 - length m % 8) 0 ++ (length m % 256) ∷ [])

-- the hash of a message under a key of 16 bytes
unfoldable pub siphash_2_4 : List ℕ → List ℕ → ℕ
siphash_2_4 key m = finalize (fold compress (initial key) (whole_words m ++ last_word m ∷ []))

-- the cell of a block: the 8 bytes of its hash, and zeros
unfoldable pub sip_cell : List ℕ → List ℕ → List ℕ
sip_cell key block = bytes 8 (siphash_2_4 key block) ++ replicate 24 0
