-- What is out of a volume before and after its calls.
use Rattle.std.proofs.Common.{◌≡◌, ℕ, ◌+◌, Bool, true, false, cond, Option, None, Some, List, Result, Ok, Err, refl, sym, ap, ◌∙◌, arith}
use Rattle.std.specs.Prelude.{nat_eq}
use Rattle.std.proofs.lemmas.Bool.{cond_both, eq-eqb, eqb-true}
use Rattle.volume.specs.declared.register.Register.{Register}
use Rattle.volume.specs.declared.slip.Slip.{Slip}
use Rattle.volume.specs.declared.volume.Volume.{Volume}
use Rattle.volume.specs.Calls.{FormatStep, LeaveStep}
use Rattle.volume.specs.Checks.{format_check, slip_check}
use Rattle.volume.specs.Promise.{slip_is_out}
use Rattle.volume.specs.Refusals.{Reason}
use Rattle.volume.specs.Replay.{Balance, out_of}
use Rattle.volume.specs.Slips.{one_of, slip_number}
use Rattle.volume.specs.View.{Base, Open, View, open_of, view}
use Rattle.volume.proofs.Decided.{format_ok, slip_ok, slip_pass}
use Rattle.volume.proofs.Results.{either, ok_not_err}
use Rattle.bench.specs.Beside.{Lent}
use Rattle.bench.specs.Spent.{Balanced, Owed, Spent}

-- a volume that has a slip out, one that has none, and two that are alike
pub out_one : (k : ℕ) (v : View) (n : ℕ) → slip_is_out v.present ≡ true → v.number ≡ n → out_of k v ≡ cond (nat_eq n k) 1 0
out_one k v n out is = (λ i. cond (nat_eq (is i) k) (cond (out i) 1 0) 0)

pub out_none : (k : ℕ) (v : View) → slip_is_out v.present ≡ false → out_of k v ≡ 0
out_none k v out = ap (λ x. cond (nat_eq v.number k) (cond x 1 0) 0) out ∙ cond_both (nat_eq v.number k) 0 0 (λ x. x ≡ 0) (λ yes. refl) (λ no. refl)

out_same : (k : ℕ) (v v' : View) → v'.number ≡ v.number → slip_is_out v'.present ≡ slip_is_out v.present → out_of k v' ≡ out_of k v
out_same k v v' number out = (λ i. cond (nat_eq (number i) k) (cond (out i) 1 0) 0)

abbrev one_if : Bool → ℕ
one_if b = cond b 1 0

-- a slip that the volume does not take is not out of it
not_out : (present : Option Open) (number n : ℕ) (e : Reason) → slip_check present number n ≡ Err e → (own : Bool) → nat_eq number n ≡ own → cond own (one_if (slip_is_out present)) 0 ≡ 0
not_out present number n e refused false is = refl
not_out None number n e refused true is = refl
not_out (Some p) number n e refused true is =
    on p.slip_out refl
  where
    on : (b : Bool) → p.slip_out ≡ b → one_if b ≡ 0
    on false out = refl
    on true out = absurd (ok_not_err p e (sym (slip_pass (Some p) p number n refl out (sym (eqb-true number n is))) ∙ refused))

module _ {D T H : Type 0} (b : Base D T H) (s s' : Volume D T H) where
  -- an accepted leave takes the slip, and no other
  pub left_with : (n : ℕ) (answer : Result Unit Reason) → LeaveStep b s n answer s' → answer ≡ Ok tt → (k : ℕ) → cond (nat_eq n k) 1 0 + out_of k (view b s') ≡ out_of k (view b s)
  left_with n answer step is k =
      either (cond (nat_eq n k) 1 0 + out_of k (view b s') ≡ out_of k (view b s)) (slip_check (open_of s.present) s.number n)
      (λ p passed.
      let ok = slip_ok (open_of s.present) p s.number n passed in
      let was : out_of k (view b s) ≡ cond (nat_eq n k) 1 0 = out_one k (view b s) n (ap slip_is_out ok.0 ∙ ok.1) (sym ok.2) in
      let now : out_of k (view b s') ≡ 0 = out_none k (view b s') (ap slip_is_out (step.goes_on p passed).after.present) in
      omega (arith, was, now))
      (λ e refused. absurd (ok_not_err tt e (sym is ∙ (step.refused e refused).0)))

  -- a refused one leaves the volume, which did not have the slip out
  pub kept_from : (n : ℕ) (e : Reason) (answer : Result Unit Reason) → LeaveStep b s n answer s' → answer ≡ Err e → (s' ≡ s) × (out_of n (view b s) ≡ 0)
  kept_from n e answer step is =
      either ((s' ≡ s) × (out_of n (view b s) ≡ 0)) (slip_check (open_of s.present) s.number n)
      (λ p passed. absurd (ok_not_err tt e (sym (step.goes_on p passed).accepted ∙ is)))
      (λ e2 refused. ((step.refused e2 refused).1, not_out (open_of s.present) s.number n e2 refused (nat_eq s.number n) refl))

  -- what a format leaves out of a volume is what was
  pub format_outs : (r r' : Register) (answer : Result Unit Reason) → FormatStep b s r answer s' r' → (k : ℕ) → out_of k (view b s') ≡ out_of k (view b s)
  format_outs r r' answer step k =
      either (out_of k (view b s') ≡ out_of k (view b s)) (format_check (open_of s.present) (b.store.meaning s.store).blocks (b.tree.meaning s.tree).blocks)
      (λ a passed.
      let closed = (format_ok (open_of s.present) (b.store.meaning s.store).blocks (b.tree.meaning s.tree).blocks passed).0 in
      let after = (step.goes_on a passed).after in
      out_same k (view b s) (view b s') (ap (λ u. u.number) after.others) (ap slip_is_out (after.present ∙ sym closed)))
      (λ e refused. ap (λ u. out_of k (view b u)) (step.refused e refused).0.1)

  -- and its number stays
  pub format_number : (r r' : Register) (answer : Result Unit Reason) → FormatStep b s r answer s' r' → s'.number ≡ s.number
  format_number r r' answer step =
      either (s'.number ≡ s.number) (format_check (open_of s.present) (b.store.meaning s.store).blocks (b.tree.meaning s.tree).blocks)
      (λ a passed. ap (λ u. u.number) (step.goes_on a passed).after.others) (λ e refused. ap (λ u. u.number) (step.refused e refused).0.1)

-- what lists make of a pool, from the slip that is lent on
pub balanced_from : (v v' w : View) (places places' : List (Option Slip)) → v.present ≡ None → Lent w places → Balance v places places' v' → Balanced v' w places'
balanced_from v v' w places places' closed lent balance k = omega (arith, out_none k v (ap slip_is_out closed), lent k, balance k)

-- a slip that is owed is out of one of the two volumes
pub owed_out : (v w : View) (held : Option Slip) (s back : Slip) → Owed v w held → held ≡ Some s → back ≡ s → out_of (slip_number s) v ≡ 0 → out_of (slip_number back) w ≡ 0 → ⊥
owed_out v w held s back owed is same none none_beside =
    let k : ℕ = slip_number s in
    let one : one_of k held ≡ 1 = ap (one_of k) is ∙ ap {B = ℕ} (λ b. cond b 1 0) (eq-eqb k k refl) in
    let beside : out_of k w ≡ 0 = ap (λ x. out_of (slip_number x) w) (sym same) ∙ none_beside in
    omega (arith, owed k, one, none, beside)

-- where one volume has not taken it, and the other has
pub spent_beside : (v w v' w' : View) (held : Option Slip) (s back : Slip) → held ≡ Some s → back ≡ s → ((k : ℕ) → out_of k v' ≡ out_of k v)
    → ((k : ℕ) → cond (nat_eq (slip_number back) k) 1 0 + out_of k w' ≡ out_of k w) → Spent v w held v' w'
spent_beside v w v' w' held s back is same stood taken k =
    let one : one_of k held ≡ cond (nat_eq (slip_number back) k) 1 0 = ap (one_of k) is ∙ ap (λ x. one_of k (Some x)) (sym same) in
    omega (arith, one, stood k, taken k)
