-- The ways of a block tried one after the other.
use Rattle.std.proofs.Common.{◌≡◌, ℕ, ◌+◌, Option, None, List, subst, ⊎_elim, arith}
use Rattle.std.proofs.lemmas.Bool.{cases_lt}
use Rattle.device.specs.declared.fault.Fault.{Fault}
use Rattle.device.specs.Meaning.{Meaning}
use Rattle.volume.proofs.Meant.{FailsWith, Fails, NoneOf}

module _ (image : List ℕ → List ℕ) (m : Meaning) (n : ℕ) (expected : List ℕ) where
  pub none_of_none : NoneOf image m n expected 0 None
  none_of_none = record { all = λ w h. absurd (omega arith); last = λ w h. absurd (omega arith) }

  pub none_of_more : (way : ℕ) (last why : Option Fault) → NoneOf image m n expected way last → FailsWith image m n expected way why → NoneOf image m n expected (way + 1) why
  none_of_more way last why none fails =
      record {
        all = λ w h. ⊎_elim (λ before. none.all w before) (λ here. let same : way ≡ w = omega arith in subst (Fails image m n expected) same (record { why = why; fails = fails })) (cases_lt w way);
        last = λ w h. let same : way ≡ w = omega arith in subst (λ v. FailsWith image m n expected v why) same fails;
      }
