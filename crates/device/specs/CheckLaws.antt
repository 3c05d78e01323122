-- What the checks give to the laws of sources and devices.
use Rattle.std.specs.Prelude.{◌≡◌, ℕ, ◌<◌, ◌≤◌, List, Result, Err, refl}
use Rattle.std.proofs.Common.{arith, sym, ap, subst, ⊎_elim}
use Rattle.std.proofs.lemmas.Bool.{cases_lt}
use Rattle.device.specs.declared.fault.Fault.{Fault}
use Rattle.device.specs.Checks.{GuardedRead, GuardedWrite}
use Rattle.device.specs.Faults.{past_end}
use Rattle.device.specs.Meaning.{Meaning, MayAnswer, CanRead, Exists, Stays, Written, after_write}

-- a guarded read answers as it may, if what it goes on to does
pub guarded_answers : {X Goes : Type 0} {m : Meaning} {s t : X} {way n : ℕ} {answer : Result (List ℕ) Fault} →
    GuardedRead m s way n answer t Goes → (Exists m way n → Goes → MayAnswer (m.cell way n) answer) → CanRead m way n answer
guarded_answers r on =
    record {
      number_first = λ past. (r.number_first past).0;
      then_way = λ below past. (r.then_way below past).0;
      then_cell = λ e. on e (r.goes_on e.below e.way_below);
    }

-- a guarded read leaves the meaning, if what it goes on to does
pub guarded_stands : {X Goes : Type 0} (meaning : X → Meaning) {s t : X} {way n : ℕ} {answer : Result (List ℕ) Fault} →
    GuardedRead (meaning s) s way n answer t Goes → (Exists (meaning s) way n → Goes → meaning t ≡ meaning s) → meaning t ≡ meaning s
guarded_stands meaning {s = s} {way = way} {n = n} r on =
    ⊎_elim
    (λ below. ⊎_elim
    (λ way_below. on (record { way_below = way_below; below = below }) (r.goes_on below way_below))
    (λ past. ap meaning (r.then_way below past).1)
    (cases_lt way (meaning s).ways))
    (λ past. ap meaning (r.number_first past).1)
    (cases_lt n (meaning s).blocks)

pub stays_itself : (m : Meaning) → Stays m m
stays_itself m = record { blocks = refl; ways = refl; sound = λ h. h }

-- a write that is refused past the end, and changes nothing
past_end_written : {m : Meaning} {n : ℕ} {block : List ℕ} {answer : Result Unit Fault} (fault : Fault) →
    m.blocks ≤ n → answer ≡ Err fault → (m.blocks ≤ n → answer ≡ Err (past_end n)) → Written m n block answer m
past_end_written {m} {n} {block} fault past is number_first =
    record {
      number_first = number_first;
      taken = λ way e sure. absurd (omega (arith, e.below));
      stays = stays_itself m;
      cells = λ way k e. subst (λ (a : Result Unit Fault). m.cell way k ≡ after_write a n block k (m.cell way k)) (sym is) refl;
    }

-- a guarded write does what it may, if what it goes on to does
pub guarded_written : {X Goes : Type 0} (meaning : X → Meaning) {s t : X} {n : ℕ} {block : List ℕ} {answer : Result Unit Fault} →
    GuardedWrite (meaning s) s n answer t Goes → (n < (meaning s).blocks → Goes → Written (meaning s) n block answer (meaning t)) → Written (meaning s) n block answer (meaning t)
guarded_written meaning {s = s} {t = t} {n = n} {block = block} {answer = answer} r on =
    ⊎_elim
    (λ below. on below (r.goes_on below))
    (λ past.
    let same : meaning s ≡ meaning t = ap meaning (sym (r.number_first past).1) in
    subst (λ (m : Meaning). Written (meaning s) n block answer m) same (past_end_written _ past (r.number_first past).0 (λ p. (r.number_first p).0)))
    (cases_lt n (meaning s).blocks)
