-- The constants of SHA-256, and the rule that they follow: they are fractions of roots of the first primes.
use Rattle.std.specs.Prelude.{◌≡◌, ℕ, zero, suc, ◌+◌, ◌-◌, ◌*◌, ◌%◌, ◌^◌, ◌<◌, ◌≤◌, Bool, true, cond, not, ◌&&◌, ◌==◌, List, [], ◌∷◌, length, nat_lt, slice_index}

-- K0 to K63, the constants of the rounds
unfoldable pub K : List ℕ
K =
    0x428a2f98 ∷ 0x71374491 ∷ 0xb5c0fbcf ∷ 0xe9b5dba5 ∷ 0x3956c25b ∷ 0x59f111f1 ∷ 0x923f82a4 ∷ 0xab1c5ed5 ∷
    0xd807aa98 ∷ 0x12835b01 ∷ 0x243185be ∷ 0x550c7dc3 ∷ 0x72be5d74 ∷ 0x80deb1fe ∷ 0x9bdc06a7 ∷ 0xc19bf174 ∷
    0xe49b69c1 ∷ 0xefbe4786 ∷ 0x0fc19dc6 ∷ 0x240ca1cc ∷ 0x2de92c6f ∷ 0x4a7484aa ∷ 0x5cb0a9dc ∷ 0x76f988da ∷
    0x983e5152 ∷ 0xa831c66d ∷ 0xb00327c8 ∷ 0xbf597fc7 ∷ 0xc6e00bf3 ∷ 0xd5a79147 ∷ 0x06ca6351 ∷ 0x14292967 ∷
    0x27b70a85 ∷ 0x2e1b2138 ∷ 0x4d2c6dfc ∷ 0x53380d13 ∷ 0x650a7354 ∷ 0x766a0abb ∷ 0x81c2c92e ∷ 0x92722c85 ∷
    0xa2bfe8a1 ∷ 0xa81a664b ∷ 0xc24b8b70 ∷ 0xc76c51a3 ∷ 0xd192e819 ∷ 0xd6990624 ∷ 0xf40e3585 ∷ 0x106aa070 ∷
    0x19a4c116 ∷ 0x1e376c08 ∷ 0x2748774c ∷ 0x34b0bcb5 ∷ 0x391c0cb3 ∷ 0x4ed8aa4a ∷ 0x5b9cca4f ∷ 0x682e6ff3 ∷
    0x748f82ee ∷ 0x78a5636f ∷ 0x84c87814 ∷ 0x8cc70208 ∷ 0x90befffa ∷ 0xa4506ceb ∷ 0xbef9a3f7 ∷ 0xc67178f2 ∷ []

-- H0 to H7 before the message
unfoldable pub H0 : List ℕ
H0 = 0x6a09e667 ∷ 0xbb67ae85 ∷ 0x3c6ef372 ∷ 0xa54ff53a ∷ 0x510e527f ∷ 0x9b05688c ∷ 0x1f83d9ab ∷ 0x5be0cd19 ∷ []

-- whether none of 2 to d divides p
unfoldable pub no_divisor : ℕ → ℕ → Bool
no_divisor p zero = true
no_divisor p (suc zero) = true
no_divisor p (suc (suc d)) = not (p % (d + 2) == 0) && no_divisor p (suc d)

-- whether p is a prime number: above 1, and divided by none of 2 to p - 1
unfoldable pub is_prime : ℕ → Bool
is_prime p = nat_lt 1 p && no_divisor p (p - 1)

-- how many prime numbers lie below p
unfoldable pub primes_below : ℕ → ℕ
primes_below zero = 0
primes_below (suc p) = cond (is_prime p) 1 0 + primes_below p

-- k is the first 32 bits of the fraction of the root of p, square for e = 2 and cube for e = 3: c is the root's whole part, and
-- c * 2^32 + k the greatest number whose power is no more than p * 2^(32 * e)
pub record IsFraction (e p k : ℕ) : Type 0 where
  pub c : ℕ
  pub word : k < 2 ^ 32
  pub below : (c * 2 ^ 32 + k) ^ e ≤ p * 2 ^ (32 * e)
  pub above : p * 2 ^ (32 * e) < (c * 2 ^ 32 + k + 1) ^ e

-- prime number i, the first of which is number 0, has this fraction
pub record IsFractionOfPrime (e i k : ℕ) : Type 0 where
  pub p : ℕ
  pub prime : is_prime p ≡ true
  pub number : primes_below p ≡ i
  pub fraction : IsFraction e p k

-- the rule of a table
abbrev pub AreFractions : ℕ → List ℕ → Type 0
AreFractions e ks = (i : ℕ) → i < length ks → IsFractionOfPrime e i (slice_index ks i)

-- the rule of both tables: the constants are the fractions of the cube roots of the first 64 prime numbers, and the words before the
-- message those of the square roots of the first 8
pub record Constants : Type 0 where
  pub K_long : length K ≡ 64
  pub K_rule : AreFractions 3 K
  pub H0_long : length H0 ≡ 8
  pub H0_rule : AreFractions 2 H0
