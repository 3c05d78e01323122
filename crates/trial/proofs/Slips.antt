-- A slip that a list has left over is one that the volume takes.
use Rattle.std.proofs.Common.{◌≡◌, ℕ, ◌≤◌, Bool, true, false, cond, Option, None, Some, List, [], ◌∷◌, Ok, refl, sym, ap, ◌∙◌, arith}
use Rattle.std.specs.Prelude.{nat_eq}
use Rattle.std.proofs.lemmas.Bool.{eq-eqb, eqb-true}
use Rattle.volume.specs.declared.slip.Slip.{Slip}
use Rattle.volume.specs.Checks.{slip_check}
use Rattle.volume.specs.Promise.{slip_is_out}
use Rattle.volume.specs.Replay.{Balance, out_of}
use Rattle.volume.specs.Slips.{one_of, slip_at, slip_number, slips_of}
use Rattle.volume.specs.View.{Open, View}
use Rattle.volume.proofs.Decided.{slip_pass}
use Rattle.volume.proofs.Results.{none_not_some}
use Rattle.trial.specs.Takes.{Takes}

-- a volume of which one slip with this number is out
out_at : (k : ℕ) (v : View) (own : Bool) (mind : Option Open) → nat_eq v.number k ≡ own → v.present ≡ mind → 1 ≤ cond own (cond (slip_is_out mind) 1 0) 0 → (v.number ≡ k) × ((p : Open) × (v.present ≡ Some p) × (p.slip_out ≡ true))
out_at k v true (Some p) is present some = (eqb-true v.number k is, (p, present, out p.slip_out refl some))
  where
    out : (b : Bool) → p.slip_out ≡ b → 1 ≤ cond b 1 0 → p.slip_out ≡ true
    out true same some = same
    out false same some = absurd (omega (arith, some))
out_at k v true None is present some = absurd (omega (arith, some))
out_at k v false mind is present some = absurd (omega (arith, some))

-- what lies at the first place is counted
first_counted : (k : ℕ) (places : List (Option Slip)) (s : Slip) → slip_at places 0 ≡ Some s → slip_number s ≡ k → 1 ≤ slips_of k places
first_counted k [] s is own = absurd (none_not_some s is)
first_counted k (place ∷ places) s is own =
    let one : one_of k place ≡ 1 = ap (one_of k) is ∙ ap {B = ℕ} (λ b. cond b 1 0) (eq-eqb (slip_number s) k own) in
    omega (arith, one)

-- a slip that is left over where there was none
pub left_over : (v v' : View) (s : Slip) (places : List (Option Slip)) → slip_at places 0 ≡ Some s → Balance v (None ∷ []) places v' → Takes v' s
left_over v v' s places is balance =
    let k = slip_number s in
    let some : 1 ≤ out_of k v' = omega (arith, balance k, first_counted k places s is refl) in
    let at = out_at k v' (nat_eq v'.number k) v'.present refl refl some in
    record { mind = at.1.0; present = at.1.1; out = at.1.2; own = sym at.0 }

-- and what the volume looks at first lets it pass
pub taken : (v : View) (s : Slip) (t : Takes v s) → slip_check v.present v.number (slip_number s) ≡ Ok t.mind
taken v s t = slip_pass v.present t.mind v.number (slip_number s) t.present t.out t.own

-- a place holds one slip
pub same_slip : (s t : Slip) → Some s ≡ Some t → s ≡ t
same_slip s t same = cc
