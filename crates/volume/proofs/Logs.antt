-- What a walk and a fetch leave of the record.
use Rattle.std.proofs.Common.{◌≡◌, ℕ, zero, suc, ◌<◌, ◌≤◌, ◌⊎◌, inl, inr, Option, List, length, Result, Ok, Err, MatchResult, refl, ap, ◌∙◌, ⊎_elim, arith}
use Rattle.std.proofs.lemmas.List.{length-replicate}
use Rattle.device.specs.declared.fault.Fault.{Fault}
use Rattle.device.specs.Meaning.{Meaning}
use Rattle.device.specs.Memory.{part, with_part}
use Rattle.device.specs.MemoryLaws.{length-with_part, other_part}
use Rattle.device.specs.Zeros.{zeros}
use Rattle.geometry.specs.Geometry.{place}
use Rattle.tree.specs.Paths.{cell_at}
use Rattle.volume.specs.Record.{blank}
use Rattle.volume.specs.Refusals.{Reason}
use Rattle.volume.proofs.Meant.{Trial, Tried, Passes, NoneOf, Walked, FetchedBlock}

-- a record area from which only the parts from `first` to `last` were written
pub record Leaves (log : List ℕ) (first last : ℕ) (left : List ℕ) : Type 0 where
  pub long : length left ≡ 2048
  pub apart : (i : ℕ) → (i < first) ⊎ (last < i) → part left i ≡ part log i

leaves_all : (log left : List ℕ) (first last : ℕ) → length log ≡ 2048 → left ≡ log → Leaves log first last left
leaves_all log left first last long stands = record { long = ap length stands ∙ long; apart = λ i out. ap (λ r. part r i) stands }

-- a part of the record written leaves it as long, and the other parts
pub leaves_others : (log bytes left : List ℕ) (n : ℕ) → n ≤ 3 → length log ≡ 2048 → length bytes ≡ 512 → left ≡ with_part log n bytes → Leaves log n n left
leaves_others log bytes left n few long whole is =
    record {
      long = ap length is ∙ length-with_part log n bytes whole (omega arith) ∙ long;
      apart = λ i out. ap (λ r. part r i) is ∙ other_part log n i bytes (omega arith) whole (λ same. ⊎_elim (λ before. omega arith) (λ after. omega arith) out);
    }

module _ (image : List ℕ → List ℕ) where
  -- a block looked for either passed or did not
  pub tried_elim : {m : Meaning} {n : ℕ} {expected : List ℕ} {Passed : List ℕ → Type 0} {Failed : Option Fault → Type 0} (C : Type 0) → Tried image m n expected Passed Failed
      → ((bytes : List ℕ) → Passes image m n expected bytes → Passed bytes → C) → ((why : Option Fault) → NoneOf image m n expected m.ways why → Failed why → C) → C
  tried_elim {m} {n} {expected} {Passed} {Failed} C tried passed failed =
      on tried.outcome tried.trial tried.goes_on
    where
      on : (outcome : Result (List ℕ) (Option Fault)) → Trial image m n expected outcome → MatchResult outcome Passed Failed → C
      on (Ok bytes) trial goes_on = passed bytes trial goes_on
      on (Err why) trial goes_on = failed why trial goes_on

  -- a walk over the l lowest levels writes only their parts of the record
  pub walk_leaves : (m : Meaning) (blocks n l : ℕ) (expected log : List ℕ) (answer : Result (List ℕ) Reason) (left : List ℕ) → l ≤ 3 → length log ≡ 2048 → Walked image m blocks n l expected log answer left → Leaves log 1 l left
  walk_leaves m blocks n zero expected log answer left few long (is, stands) = leaves_all log left 1 0 long stands
  walk_leaves m blocks n (suc l) expected log answer left few long w =
      tried_elim (Leaves log 1 (suc l) left) w
      (λ bytes passes rest.
      let next = with_part log (suc l) bytes in
      let put : Leaves log (suc l) (suc l) next = leaves_others log bytes next (suc l) few long passes.whole refl in
      let after : Leaves next 1 l left = walk_leaves m blocks n l (cell_at bytes (place blocks l n).1) next answer left (omega arith) put.long rest in
      record {
        long = after.long;
        apart = λ i out. ⊎_elim (λ before. after.apart i (inl before) ∙ put.apart i (inl (omega arith))) (λ above. after.apart i (inr (omega arith)) ∙ put.apart i (inr above)) out;
      })
      (λ why none stuck. leaves_all log left 1 (suc l) long stuck.1)

  -- a fetch writes at most part 0 of the record that the walk left
  pub fetch_leaves : (store : Meaning) (n : ℕ) (walked : Result (List ℕ) Reason) (log : List ℕ) (answer : Result Unit Reason) (block left : List ℕ) → length log ≡ 2048
      → MatchResult walked (λ expected. FetchedBlock image store n expected log answer block left) (λ reason. (answer ≡ Err reason) × (block ≡ zeros) × (left ≡ log)) → Leaves log 0 0 left
  fetch_leaves store n (Ok expected) log answer block left long fetch =
      tried_elim (Leaves log 0 0 left) fetch (λ bytes passes came. leaves_others log bytes left 0 (omega arith) long passes.whole came.2) (λ why none stuck. leaves_all log left 0 0 long stuck.2)
  fetch_leaves store n (Err reason) log answer block left long (is, none, stands) = leaves_all log left 0 0 long stands

-- the record area begins with its whole length
pub blank_long : length blank ≡ 2048
unfolding blank
blank_long = length-replicate {A = ℕ} 2048 0
