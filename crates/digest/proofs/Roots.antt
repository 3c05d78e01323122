-- The rule of the constants, by a test over each table as a whole.
use Rattle.std.specs.Prelude.{◌≡◌, ℕ, zero, suc, ◌+◌, ◌*◌, ◌^◌, ◌<◌, Bool, true, false, cond, ◌&&◌, List, [], ◌∷◌, length, nat_le, nat_lt, slice_index}
use Rattle.std.proofs.Common.{refl, sym, subst, true≢false, ⊎_elim, ◌∙◌, arith}
use Rattle.std.specs.Cmp.{first_so, second_so}
use Rattle.std.proofs.lemmas.Bool.{cases_Bool, cond-true, cond-false, leb-true, ltb-true}
use Rattle.digest.specs.Roots.{K, H0, no_divisor, is_prime, primes_below, IsFraction, IsFractionOfPrime, AreFractions, Constants}

-- the whole part of the root, where it is at most n: how many of 1 to n have a power that is no more than p
whole : ℕ → ℕ → ℕ → ℕ
whole e p zero = 0
whole e p (suc n) = cond (nat_le ((n + 1) ^ e) p) 1 0 + whole e p n

-- whether k is the fraction of the root of p
is_fraction : ℕ → ℕ → ℕ → Bool
is_fraction e p k =
    nat_lt k (2 ^ 32)
    && nat_le ((whole e p 20 * 2 ^ 32 + k) ^ e) (p * 2 ^ (32 * e))
    && nat_lt (p * 2 ^ (32 * e)) ((whole e p 20 * 2 ^ 32 + k + 1) ^ e)

-- whether the prime numbers from p on, of which the last lies less than n above p, have these fractions
are_fractions : ℕ → ℕ → ℕ → List ℕ → Bool
are_fractions e n p [] = true
are_fractions e zero p (k ∷ ks) = false
are_fractions e (suc n) p (k ∷ ks) =
    cond (is_prime p) (is_fraction e p k && are_fractions e n (suc p) ks) (are_fractions e n (suc p) (k ∷ ks))

test_K : are_fractions 3 312 0 K ≡ true
unfolding K is_prime no_divisor are_fractions is_fraction whole
test_K = refl

test_H0 : are_fractions 2 20 0 H0 ≡ true
unfolding H0 is_prime no_divisor are_fractions is_fraction whole
test_H0 = refl

-- what the test of one constant says
fraction_holds : (e p k : ℕ) → is_fraction e p k ≡ true → IsFraction e p k
unfolding is_fraction
fraction_holds e p k h =
    let first = first_so _ _ h in
    record {
      c = whole e p 20;
      word = ltb-true _ _ (first_so _ _ first);
      below = leb-true _ _ (second_so _ _ first);
      above = ltb-true _ _ (second_so _ _ h);
    }

-- how many prime numbers lie below the next number
one_more : (p : ℕ) → is_prime p ≡ true → primes_below (suc p) ≡ suc (primes_below p)
unfolding primes_below
one_more p h = simp h (omega arith)

no_more : (p : ℕ) → is_prime p ≡ false → primes_below (suc p) ≡ primes_below p
unfolding primes_below
no_more p h = simp h (omega arith)

-- the rule of a table, of the prime numbers from p on
abbrev From : ℕ → ℕ → List ℕ → Type 0
From e p ks = (i : ℕ) → i < length ks → IsFractionOfPrime e (primes_below p + i) (slice_index ks i)

from_prime : (e p k : ℕ) (ks : List ℕ) → is_prime p ≡ true → IsFraction e p k → From e (suc p) ks → From e p (k ∷ ks)
from_prime e p k ks h first rest zero below = record { p = p; prime = h; number = omega arith; fraction = first }
from_prime e p k ks h first rest (suc i) below =
    subst (λ m. IsFractionOfPrime e m (slice_index ks i)) (omega (arith, one_more p h)) (rest i (omega arith))

from_other : (e p : ℕ) (ks : List ℕ) → is_prime p ≡ false → From e (suc p) ks → From e p ks
from_other e p ks h rest i below =
    subst (λ m. IsFractionOfPrime e m (slice_index ks i)) (omega (arith, no_more p h)) (rest i below)

-- what the test of a table says
fractions_hold : (e n p : ℕ) (ks : List ℕ) → are_fractions e n p ks ≡ true → From e p ks
unfolding are_fractions
fractions_hold e n p [] h = λ i below. absurd (omega (arith, below))
fractions_hold e zero p (k ∷ ks) h = absurd (true≢false (sym h))
fractions_hold e (suc n) p (k ∷ ks) h =
    ⊎_elim
    (λ prime.
    let both = sym (cond-true (is_prime p) (is_fraction e p k && are_fractions e n (suc p) ks) (are_fractions e n (suc p) (k ∷ ks)) prime) ∙ h in
    from_prime e p k ks prime (fraction_holds e p k (first_so _ _ both)) (fractions_hold e n (suc p) ks (second_so _ _ both)))
    (λ other.
    let later = sym (cond-false (is_prime p) (is_fraction e p k && are_fractions e n (suc p) ks) (are_fractions e n (suc p) (k ∷ ks)) other) ∙ h in
    from_other e p (k ∷ ks) other (fractions_hold e n (suc p) (k ∷ ks) later))
    (cases_Bool (is_prime p))

table_rule : (e n : ℕ) (ks : List ℕ) → are_fractions e n 0 ks ≡ true → AreFractions e ks
unfolding primes_below
table_rule e n ks h i below = subst (λ m. IsFractionOfPrime e m (slice_index ks i)) (omega arith) (fractions_hold e n 0 ks h i below)

cubes : AreFractions 3 K
cubes = table_rule 3 312 K test_K

squares : AreFractions 2 H0
squares = table_rule 2 20 H0 test_H0

pub constants : Constants
unfolding K H0
constants = record { K_long = refl; K_rule = cubes; H0_long = refl; H0_rule = squares }
