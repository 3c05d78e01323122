-- A block looked for in the ways of a source, one way after the other.
use Rattle.std.proofs.Common.{◌≡◌, ◌≢◌, ℕ, suc, ◌+◌, ◌-◌, ◌<◌, Option, Some, None, List, length, Result, Ok, Err, Bool, true, false, true≢false, sym, refl, ◌∙◌, subst, inl, inr, arith}
use lib.Dec.{eqb}
use lib.Pointwise.{bytes_decides, pointwise}
use Rattle.device.specs.declared.fault.Fault.{Fault}
use Rattle.device.specs.declared.source.Source
use Rattle.volume.specs.Walk.{Search}

module _ {S : Type 0} (g : Source.Ghosts S) (image : List ℕ → List ℕ) (n : ℕ) (expected : List ℕ) (ways : ℕ) (first : S) where
  -- whatever the ways from this one on come to, all so many come to
  pub record SoFar (way : ℕ) (last : Option Fault) (s : S) : Type 0 where
    pub comes : (outcome : Result (List ℕ) (Option Fault)) (t : S) → Search g image n expected (ways - way) way last s outcome t → Search g image n expected ways 0 None first outcome t

  pub none_yet : SoFar 0 None first
  none_yet = let e : ways - 0 ≡ ways = omega arith in record { comes = λ outcome t rest. subst (λ k. Search g image n expected k 0 None first outcome t) e rest }

  -- no way is left
  pub all_failed : (way : ℕ) (last : Option Fault) (s : S) → ways - way ≡ 0 → SoFar way last s → Search g image n expected ways 0 None first (Err last) s
  all_failed way last s none so_far = so_far.comes (Err last) s (subst (λ k. Search g image n expected k way last s (Err last) s) (sym none) (refl, refl))

  module _ (way : ℕ) (last : Option Fault) (s between : S) (below : way < ways) (so_far : SoFar way last s) where
    left : suc (ways - (way + 1)) ≡ ways - way
    left = omega arith

    another : way + 1 ≡ suc way
    another = omega arith

    at_least_one : (outcome : Result (List ℕ) (Option Fault)) (t : S) → Search g image n expected (suc (ways - (way + 1))) way last s outcome t → Search g image n expected ways 0 None first outcome t
    at_least_one outcome t rest = so_far.comes outcome t (subst (λ k. Search g image n expected k way last s outcome t) left rest)

    next : (last' : Option Fault) (outcome : Result (List ℕ) (Option Fault)) (t : S) → Search g image n expected (ways - (way + 1)) (way + 1) last' between outcome t → Search g image n expected (ways - (way + 1)) (suc way) last' between outcome t
    next last' outcome t rest = subst (λ w. Search g image n expected (ways - (way + 1)) w last' between outcome t) another rest

    -- this way passes
    pub passes : (bytes : List ℕ) → g.reads s way n (Ok bytes) between → image bytes ≡ expected → length bytes ≡ 512 → Search g image n expected ways 0 None first (Ok bytes) between
    passes bytes step same long = at_least_one (Ok bytes) between (record { answer = Ok bytes; between = between; step = step; goes_on = inl (same, long, refl, refl) })

    -- this way answers bytes of another image
    pub differs : (bytes : List ℕ) → g.reads s way n (Ok bytes) between → image bytes ≢ expected → SoFar (way + 1) None between
    differs bytes step other =
        record { comes = λ outcome t rest. at_least_one outcome t (record { answer = Ok bytes; between = between; step = step; goes_on = inr (other, next None outcome t rest) }) }

    -- this way answers a fault
    pub faults : (fault : Fault) → g.reads s way n (Err fault) between → SoFar (way + 1) (Some fault) between
    faults fault step = record { comes = λ outcome t rest. at_least_one outcome t (record { answer = Err fault; between = between; step = step; goes_on = next (Some fault) outcome t rest }) }

-- an image is the expected one, or not, as the code compares what it made of the block
pub alike_are_same : (shown seen expected : List ℕ) (alike : Bool) → seen ≡ shown → alike ≡ pointwise eqb seen expected → alike ≡ true → shown ≡ expected
alike_are_same shown seen expected alike hashed compared are = sym hashed ∙ (bytes_decides seen expected).0 (sym compared ∙ are)

pub unlike_differ : (shown seen expected : List ℕ) (alike : Bool) → seen ≡ shown → alike ≡ pointwise eqb seen expected → alike ≡ false → shown ≢ expected
unlike_differ shown seen expected alike hashed compared are same = true≢false (sym ((bytes_decides seen expected).1 (hashed ∙ same)) ∙ sym compared ∙ are)
