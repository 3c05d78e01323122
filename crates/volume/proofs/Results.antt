-- Results told apart.
use Rattle.std.proofs.Common.{◌≡◌, None, Some, Result, Ok, Err, MatchResult, refl, ap, subst}

-- an answer is one of two
pub either : {A E : Type 0} (C : Type 0) (r : Result A E) → ((a : A) → r ≡ Ok a → C) → ((e : E) → r ≡ Err e → C) → C
either C (Ok a) passed refused = passed a refl
either C (Err e) passed refused = refused e refl

-- and not both
pub ok_not_err : {A E : Type 0} (a : A) (e : E) → Ok a ≡ Err e → ⊥
ok_not_err {A} {E} a e same = let P : Result A E → Type 0 = λ r. MatchResult r (λ x. Unit {0}) (λ x. ⊥) in subst P same tt

-- what was returned, or else `d`
abbrev pub ok_in : {A E : Type 0} → A → Result A E → A
ok_in d (Ok a) = a
ok_in d (Err e) = d

abbrev err_in : {A E : Type 0} → E → Result A E → E
err_in d (Ok a) = d
err_in d (Err e) = e

-- a refusal is the same whatever else could have been returned
pub same_err : {A B E : Type 0} (e f : E) → ◌≡◌ {A = Result A E} (Err e) (Err f) → ◌≡◌ {A = Result B E} (Err e) (Err f)
same_err e f same = ap Err (ap (err_in e) same)

pub none_not_some : {A : Type 0} (a : A) → None ≡ Some a → ⊥
none_not_some a same = cc
