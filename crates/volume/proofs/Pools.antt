-- Slips in a pool, counted.
use Rattle.std.proofs.Common.{◌≡◌, ℕ, zero, suc, ◌+◌, ◌<◌, Option, None, Some, List, [], ◌∷◌, length, set, refl, sym, ap, arith}
use Rattle.volume.specs.declared.slip.Slip.{Slip}
use Rattle.volume.specs.Slips.{one_of, slip_at, slips_of}

-- a place filled anew: what was there is counted no more, and what is there now is
pub slips_set : (k : ℕ) (places : List (Option Slip)) (n : ℕ) (o : Option Slip) → n < length places → slips_of k (set places n o) + one_of k (slip_at places n) ≡ slips_of k places + one_of k o
slips_set k [] n o inside = absurd (omega (arith, inside))
slips_set k (place ∷ places) zero o inside = omega arith
slips_set k (place ∷ places) (suc n) o inside = omega (arith, slips_set k places n o (omega (arith, inside)))

-- a place that has a slip is one that there is
pub slip_inside : (places : List (Option Slip)) (n : ℕ) (s : Slip) → slip_at places n ≡ Some s → n < length places
slip_inside [] n s is = absurd (none_is n s is)
  where
    none_is : (n : ℕ) (s : Slip) → slip_at [] n ≡ Some s → ⊥
    none_is zero s is = cc
    none_is (suc n) s is = cc
slip_inside (place ∷ places) zero s is = omega arith
slip_inside (place ∷ places) (suc n) s is = let below = slip_inside places n s is in omega (arith, below)

-- a slip that was taken from its place and laid there again
pub laid_again : (places : List (Option Slip)) (n : ℕ) (o : Option Slip) → slip_at places n ≡ o → set (set places n None) n o ≡ places
laid_again [] zero o is = refl
laid_again [] (suc n) o is = refl
laid_again (place ∷ places) zero o is = ap (λ p. p ∷ places) (sym is)
laid_again (place ∷ places) (suc n) o is = ap (λ l. place ∷ l) (laid_again places n o is)

-- a place that was emptied is empty
pub emptied : (places : List (Option Slip)) (n : ℕ) → slip_at (set places n None) n ≡ None
emptied [] zero = refl
emptied [] (suc n) = refl
emptied (place ∷ places) zero = refl
emptied (place ∷ places) (suc n) = emptied places n
