-- No slip is lost or made up: what a call does to the pool is what it does to the slips that the volume has out.
use Rattle.std.proofs.Common.{◌≡◌, ℕ, ◌+◌, ◌<◌, ◌⊎◌, inl, inr, Bool, true, false, cond, Option, None, Some, List, [], length, set, Result, Ok, Err, refl, sym, ap, ◌∙◌, subst, true≢false, ⊎_elim, arith}
use Rattle.std.specs.Prelude.{nat_eq, nat_lt}
use Rattle.std.proofs.lemmas.Bool.{cond_both, ltb-true}
use Rattle.volume.specs.declared.entry.Call.{Call}
use Rattle.volume.specs.declared.entry.Call.TheVariants.{Open, Begin, Read, Write, Keep, Leave, Shut}
use Rattle.volume.specs.declared.refusal.Refusal.{Refusal}
use Rattle.volume.specs.declared.slip.Slip.{Slip}
use Rattle.volume.specs.Ledger.{Ledger, afresh, feed}
use Rattle.volume.specs.Promise.{slip_is_out}
use Rattle.volume.specs.Refusals.{reason, told}
use Rattle.volume.specs.Replay.{begins_at, call_of, moved, out_of, shown_by}
use Rattle.volume.specs.Slips.{one_of, slip_at, slip_number, slip_with, slips_of}
use Rattle.volume.specs.Story as story
use Rattle.volume.specs.Story.{Made, State, Step}
use Rattle.volume.specs.View.{Base, View, view}
use Rattle.volume.proofs.Outcomes.{Lawful, Outcome, begun, hands_over, kept, left, not_clear, opened, outcome, shut, stands, written}
use Rattle.volume.proofs.Pools.{slip_inside, slips_set}
use Rattle.volume.proofs.Results.{none_not_some, ok_not_err}

-- a call that is shown a slip
pub record Shown (o : Option Slip) (call : ℕ → story.Call) (made : story.Call) : Type 0 where
  pub slip : Slip
  pub there : o ≡ Some slip
  pub is : made ≡ call (slip_number slip)

abbrev call_in : story.Call → Option story.Call → story.Call
call_in d None = d
call_in d (Some c) = c

shown_so : (o : Option Slip) (call : ℕ → story.Call) (made : story.Call) → shown_by o call ≡ Some made → Shown o call made
shown_so None call made is = absurd (none_not_some made is)
shown_so (Some s) call made is = record { slip = s; there = refl; is = sym (ap (call_in made) is) }

-- a begin at a place that is free
pub record FreeAt (places : List (Option Slip)) (place : ℕ) (o : Option Slip) (made : story.Call) : Type 0 where
  pub inside : place < length places
  pub empty : o ≡ None
  pub is : made ≡ story.begins

free_so : (places : List (Option Slip)) (place : ℕ) (o : Option Slip) (made : story.Call) → begins_at places place o ≡ Some made → FreeAt places place o made
free_so places place (Some s) made is = absurd (none_not_some made is)
free_so places place None made is =
    on (nat_lt place (length places)) refl is
  where
    on : (x : Bool) → nat_lt place (length places) ≡ x → cond x (Some story.begins) None ≡ Some made → FreeAt places place None made
    on true below is = record { inside = ltb-true place (length places) below; empty = refl; is = sym (ap (call_in made) is) }
    on false below is = absurd (none_not_some made is)

-- a call that hands no slip over leaves the pool
quiet_pool : (number : ℕ) (pl : List (Option Slip)) (c : Call) (call : story.Call) (answer : Result Unit Refusal) → call_of pl c ≡ Some call → hands_over (told answer) call ≡ false → moved number pl answer c ≡ pl
quiet_pool number pl Open call (Ok done) is quiet = refl
quiet_pool number pl Open call (Err e) is quiet = refl
quiet_pool number pl (Begin place) call (Ok done) is quiet =
    let free = free_so pl place (slip_at pl place) call is in absurd (true≢false (sym (ap (hands_over (Ok tt)) free.is) ∙ quiet))
quiet_pool number pl (Begin place) call (Err e) is quiet = refl
quiet_pool number pl (Read n) call (Ok done) is quiet = refl
quiet_pool number pl (Read n) call (Err e) is quiet = refl
quiet_pool number pl (Write place n) call (Ok done) is quiet = refl
quiet_pool number pl (Write place n) call (Err e) is quiet = refl
quiet_pool number pl (Keep place) call (Ok done) is quiet =
    let shown = shown_so (slip_at pl place) story.keeps call is in absurd (true≢false (sym (ap (hands_over (Ok tt)) shown.is) ∙ quiet))
quiet_pool number pl (Keep place) call (Err e) is quiet = refl
quiet_pool number pl (Leave place) call (Ok done) is quiet =
    let shown = shown_so (slip_at pl place) story.leaves call is in absurd (true≢false (sym (ap (hands_over (Ok tt)) shown.is) ∙ quiet))
quiet_pool number pl (Leave place) call (Err e) is quiet = refl
quiet_pool number pl Shut call (Ok done) is quiet = refl
quiet_pool number pl Shut call (Err e) is quiet = refl

module _ (k : ℕ) where
  -- a volume that has a slip out, and one that has none
  out_one : (v : View) (n : ℕ) → slip_is_out v.present ≡ true → v.number ≡ n → out_of k v ≡ cond (nat_eq n k) 1 0
  out_one v n out is = (λ i. cond (nat_eq (is i) k) (cond (out i) 1 0) 0)

  out_none : (v : View) → slip_is_out v.present ≡ false → out_of k v ≡ 0
  out_none v out =
      ap (λ x. cond (nat_eq v.number k) (cond x 1 0) 0) out ∙ cond_both (nat_eq v.number k) 0 0 (λ x. x ≡ 0) (λ yes. refl) (λ no. refl)

  out_same : (v v' : View) → v'.number ≡ v.number → slip_is_out v'.present ≡ slip_is_out v.present → out_of k v' ≡ out_of k v
  out_same v v' number out = (λ i. cond (nat_eq (number i) k) (cond (out i) 1 0) 0)

  module _ (pl : List (Option Slip)) (v v' : View) where
    -- nothing is handed over
    quiet_balance : (pl2 : List (Option Slip)) → pl2 ≡ pl → out_of k v' ≡ out_of k v → slips_of k pl2 + out_of k v ≡ slips_of k pl + out_of k v'
    quiet_balance pl2 same out = omega (arith, ap (slips_of k) same, out)

    -- a slip comes to an empty place
    given_balance : (place : ℕ) → place < length pl → slip_at pl place ≡ None → slip_is_out v.present ≡ false → slip_is_out v'.present ≡ true → v'.number ≡ v.number
        → slips_of k (set pl place (Some (slip_with v.number))) + out_of k v ≡ slips_of k pl + out_of k v'
    given_balance place inside empty before after number =
        omega (arith, slips_set k pl place (Some (slip_with v.number)) inside, ap (one_of k) empty, out_none v before, out_one v' v.number after number)

    -- a slip of the volume is taken from its place
    taken_balance : (place : ℕ) (s : Slip) → slip_at pl place ≡ Some s → slip_number s ≡ v.number → slip_is_out v.present ≡ true → slip_is_out v'.present ≡ false
        → slips_of k (set pl place None) + out_of k v ≡ slips_of k pl + out_of k v'
    taken_balance place s there own before after =
        omega
        (arith, slips_set k pl place None (slip_inside pl place s there), ap (one_of k) there, ap {B = ℕ} (λ n. cond (nat_eq n k) 1 0) own, out_one v v.number before refl, out_none v' after)

-- begin gives a slip out, keep and leave take one
abbrev gives : story.Call → Bool
gives story.begins = true
gives _ = false

abbrev takes : story.Call → Bool
takes (story.keeps slip) = true
takes (story.leaves slip) = true
takes _ = false

differs : (f : story.Call → Bool) (call made : story.Call) → f made ≡ false → call ≡ made → f call ≡ true → ⊥
differs f call made none is said = true≢false (sym said ∙ ap f is ∙ none)

module _ (number : ℕ) (pl : List (Option Slip)) (call : story.Call) where
  -- the entry of a call that gives a slip out
  record Given (c : Call) : Type 0 where
    pub place : ℕ
    pub inside : place < length pl
    pub empty : slip_at pl place ≡ None
    pub pool : moved number pl (Ok tt) c ≡ set pl place (Some (slip_with number))

  -- and of one that takes one
  record Taken (c : Call) : Type 0 where
    pub place : ℕ
    pub slip : Slip
    pub there : slip_at pl place ≡ Some slip
    pub shown : (call ≡ story.keeps (slip_number slip)) ⊎ (call ≡ story.leaves (slip_number slip))
    pub pool : moved number pl (Ok tt) c ≡ set pl place None

  given_by : (c : Call) → call_of pl c ≡ Some call → gives call ≡ true → Given c
  given_by Open is said = absurd (differs gives call story.opens refl (sym (ap (call_in call) is)) said)
  given_by (Begin place) is said = let free = free_so pl place (slip_at pl place) call is in record { place = place; inside = free.inside; empty = free.empty; pool = refl }
  given_by (Read n) is said = absurd (differs gives call (story.reads n) refl (sym (ap (call_in call) is)) said)
  given_by (Write place n) is said =
      let shown = shown_so (slip_at pl place) (λ slip. story.writes slip n) call is in absurd (differs gives call (story.writes (slip_number shown.slip) n) refl shown.is said)
  given_by (Keep place) is said = let shown = shown_so (slip_at pl place) story.keeps call is in absurd (differs gives call (story.keeps (slip_number shown.slip)) refl shown.is said)
  given_by (Leave place) is said = let shown = shown_so (slip_at pl place) story.leaves call is in absurd (differs gives call (story.leaves (slip_number shown.slip)) refl shown.is said)
  given_by Shut is said = absurd (differs gives call story.shuts refl (sym (ap (call_in call) is)) said)

  taken_by : (c : Call) → call_of pl c ≡ Some call → takes call ≡ true → Taken c
  taken_by Open is said = absurd (differs takes call story.opens refl (sym (ap (call_in call) is)) said)
  taken_by (Begin place) is said = let free = free_so pl place (slip_at pl place) call is in absurd (differs takes call story.begins refl free.is said)
  taken_by (Read n) is said = absurd (differs takes call (story.reads n) refl (sym (ap (call_in call) is)) said)
  taken_by (Write place n) is said =
      let shown = shown_so (slip_at pl place) (λ slip. story.writes slip n) call is in absurd (differs takes call (story.writes (slip_number shown.slip) n) refl shown.is said)
  taken_by (Keep place) is said =
      let shown = shown_so (slip_at pl place) story.keeps call is in record { place = place; slip = shown.slip; there = shown.there; shown = inl shown.is; pool = refl }
  taken_by (Leave place) is said =
      let shown = shown_so (slip_at pl place) story.leaves call is in record { place = place; slip = shown.slip; there = shown.there; shown = inr shown.is; pool = refl }
  taken_by Shut is said = absurd (differs takes call story.shuts refl (sym (ap (call_in call) is)) said)

-- the slip that a call shows
abbrev slip_in : story.Call → ℕ
slip_in (story.keeps slip) = slip
slip_in (story.leaves slip) = slip
slip_in _ = 0

accepted_so : (answer : Result Unit Refusal) → told answer ≡ Ok tt → answer ≡ Ok tt
accepted_so (Ok done) is = refl
accepted_so (Err e) is = absurd (ok_not_err tt (reason e) (sym is))

module _ {D T H : Type 0} (b : Base D T H) (lawful : Lawful b) (k : ℕ) (pl : List (Option Slip)) (w u : State D T H) (c : Call) (call : story.Call) (m : Made) (answer : Result Unit Refusal) (same_call : m.call ≡ call) (answered : m.answer ≡ told answer)
    (there : call_of pl c ≡ Some call)
  where
    -- any ledger does
    abbrev l0 : Ledger
    l0 = afresh []

    abbrev Balanced : Type 0
    Balanced = slips_of k (moved w.volume.number pl answer c) + out_of k (view b w.volume) ≡ slips_of k pl + out_of k (view b u.volume)

    quiet_so : hands_over m.answer m.call ≡ false → slip_is_out (view b u.volume).present ≡ slip_is_out (view b w.volume).present → (view b u.volume).number ≡ (view b w.volume).number → Balanced
    quiet_so quiet out number =
        quiet_balance k pl (view b w.volume) (view b u.volume) (moved w.volume.number pl answer c)
        (quiet_pool w.volume.number pl c call answer there ((λ i. hands_over (sym answered i) (sym same_call i)) ∙ quiet)) (out_same k (view b w.volume) (view b u.volume) number out)

    given_so : m.call ≡ story.begins → m.answer ≡ Ok tt → slip_is_out (view b w.volume).present ≡ false → slip_is_out (view b u.volume).present ≡ true → (view b u.volume).number ≡ (view b w.volume).number → Balanced
    given_so is ok before after number =
        let g = given_by w.volume.number pl call c there (ap gives (sym same_call ∙ is)) in
        let done : answer ≡ Ok tt = accepted_so answer (sym answered ∙ ok) in
        let pool : moved w.volume.number pl answer c ≡ set pl g.place (Some (slip_with w.volume.number)) = ap (λ a. moved w.volume.number pl a c) done ∙ g.pool in
        subst (λ q. slips_of k q + out_of k (view b w.volume) ≡ slips_of k pl + out_of k (view b u.volume)) (sym pool)
        (given_balance k pl (view b w.volume) (view b u.volume) g.place g.inside g.empty before after number)

    taken_so : (slip : ℕ) → takes m.call ≡ true → slip_in m.call ≡ slip → m.answer ≡ Ok tt → slip ≡ w.volume.number → slip_is_out (view b w.volume).present ≡ true → slip_is_out (view b u.volume).present ≡ false → Balanced
    taken_so slip is shows ok own before after =
        let t = taken_by w.volume.number pl call c there (ap takes (sym same_call) ∙ is) in
        let done : answer ≡ Ok tt = accepted_so answer (sym answered ∙ ok) in
        let pool : moved w.volume.number pl answer c ≡ set pl t.place None = ap (λ a. moved w.volume.number pl a c) done ∙ t.pool in
        let number : slip_number t.slip ≡ slip = ⊎_elim {A = call ≡ story.keeps (slip_number t.slip)} {B = call ≡ story.leaves (slip_number t.slip)} (λ keep. sym (ap slip_in keep)) (λ leave. sym (ap slip_in leave)) t.shown ∙ ap slip_in (sym same_call) ∙ shows in
        subst (λ q. slips_of k q + out_of k (view b w.volume) ≡ slips_of k pl + out_of k (view b u.volume)) (sym pool)
        (taken_balance k pl (view b w.volume) (view b u.volume) t.place t.slip t.there (number ∙ own) before after)

    by_outcome : Outcome l0 (view b w.volume) w.register m (feed l0 m) (view b u.volume) u.register → Balanced
    by_outcome (stands quiet o) = quiet_so quiet (ap (λ x. slip_is_out x.present) o.same) (ap (λ x. x.number) o.same)
    by_outcome (opened quiet o) = quiet_so quiet (ap slip_is_out o.after.turned.present ∙ sym (ap slip_is_out o.closed)) o.after.turned.number
    by_outcome (begun is ok o) = given_so is ok (ap slip_is_out o.was.present ∙ o.was.slip) (ap slip_is_out o.after.turned.present) o.after.turned.number
    by_outcome (shut quiet o) = quiet_so quiet (ap slip_is_out o.after.turned.present ∙ sym (ap slip_is_out o.was.present ∙ o.was.slip)) o.after.turned.number
    by_outcome (left slip is ok own o) = taken_so slip (ap takes is) (ap slip_in is) ok own (ap slip_is_out o.was.present ∙ o.was.slip) (ap slip_is_out o.after.turned.present)
    by_outcome (kept slip is ok own o) = taken_so slip (ap takes is) (ap slip_in is) ok own (ap slip_is_out o.was.present ∙ o.was.slip) (ap slip_is_out o.after.turned.present)
    by_outcome (not_clear quiet o) = quiet_so quiet (ap slip_is_out o.after.turned.present ∙ sym (ap slip_is_out o.was.present)) o.after.turned.number
    by_outcome (written quiet slip n is o) = quiet_so quiet (ap slip_is_out o.turned.present ∙ sym (ap slip_is_out o.was.present)) o.turned.number

    -- a call that was made leaves the balance
    pub turn_balances : Step b w m u → Balanced
    turn_balances step = by_outcome (outcome b lawful l0 w m u step)
