-- What the checks of the calls say where they pass, and that they pass where they have to.
use Rattle.std.proofs.Common.{◌≡◌, ℕ, zero, suc, ◌<◌, ◌≤◌, Bool, true, false, ◌&&◌, Option, None, Some, List, Result, Ok, Err, MatchResult, refl, sym, ap, ◌∙◌, subst, arith}
use Rattle.std.proofs.lemmas.Bool.{and_from, and_parts, cond_both, cond-false, cond-true, eq-eqb, eqb-true, le-ltb, lt-ltb, ltb-false, ltb-true}
use Rattle.std.specs.Prelude.{is_some, nat_eq, nat_lt}
use Rattle.device.specs.Meaning.{Meaning}
use Rattle.device.specs.Zeros.{zeros}
use Rattle.geometry.specs.Geometry.{total}
use Rattle.volume.specs.Checks.{after, areas_check, begin_check, counts_check, format_check, look_check, need, next, open_check, read_check, register_check, slip_check, unless, when_closed, when_open, write_check}
use Rattle.volume.specs.Ledger.{walked}
use Rattle.volume.specs.Refusals.{Reason, Stuck, plain}
use Rattle.volume.specs.View.{Open}
use Rattle.volume.specs.Writes.{unwritten}
use Rattle.volume.proofs.Logs.{tried_elim}
use Rattle.volume.proofs.Meant.{Fetched, FetchedBlock, Walked}
use Rattle.volume.proofs.Results.{ok_not_err}

abbrev open_in : Open → Option Open → Open
open_in d None = d
open_in d (Some p) = p

pub same_open : (p q : Open) → Some p ≡ Some q → p ≡ q
same_open p q same = ap (open_in p) same

need_ok : {A : Type 0} (holds : Bool) (number : ℕ) (others : Result A Reason) (a : A) → need holds number others ≡ Ok a → (holds ≡ true) × (others ≡ Ok a)
need_ok true number others a is = (refl, is)
need_ok false number others a is = absurd (ok_not_err a (plain number) (sym is))

unless_ok : {A : Type 0} (fails : Bool) (number : ℕ) (others : Result A Reason) (a : A) → unless fails number others ≡ Ok a → (fails ≡ false) × (others ≡ Ok a)
unless_ok true number others a is = absurd (ok_not_err a (plain number) (sym is))
unless_ok false number others a is = (refl, is)

next_ok : {A : Type 0} (first : Result Unit Reason) (others : Result A Reason) (a : A) → next first others ≡ Ok a → (first ≡ Ok tt) × (others ≡ Ok a)
next_ok (Ok done) others a is = (refl, is)
next_ok (Err e) others a is = absurd (ok_not_err a e (sym is))

next_pass : {A : Type 0} (first : Result Unit Reason) (others : Result A Reason) → first ≡ Ok tt → next first others ≡ others
next_pass {A} first others is = ap (λ r. next {A = A} r others) is

-- only an open volume passes what asks for one
open_ok_at : {A : Type 0} (present : Option Open) (others : Open → Result A Reason) (a : A) → when_open present others ≡ Ok a → (p : Open) × (present ≡ Some p) × (others p ≡ Ok a)
open_ok_at None others a is = absurd (ok_not_err a (plain 40) (sym is))
open_ok_at (Some p) others a is = (p, refl, is)

open_pass_at : {A : Type 0} (present : Option Open) (others : Open → Result A Reason) (p : Open) → present ≡ Some p → when_open present others ≡ others p
open_pass_at {A} present others p here = ap (λ o. when_open {A = A} o others) here

-- and only a closed one what asks for that
closed_ok : {A : Type 0} (present : Option Open) (others : Result A Reason) (a : A) → when_closed present others ≡ Ok a → (present ≡ None) × (others ≡ Ok a)
closed_ok None others a is = (refl, is)
closed_ok (Some p) others a is = absurd (ok_not_err a (plain 41) (sym is))

closed_pass : {A : Type 0} (present : Option Open) (others : Result A Reason) → present ≡ None → when_closed present others ≡ others
closed_pass {A} present others here = ap (λ o. when_closed {A = A} o others) here

-- the areas are right, and the number is that of a block
pub record Fit (blocks n block_length log_length : ℕ) : Type 0 where
  pub block_area : block_length ≡ 512
  pub record_area : log_length ≡ 2048
  pub inside : n < blocks

areas_ok : (blocks n block_length log_length : ℕ) → areas_check blocks n block_length log_length ≡ Ok tt → Fit blocks n block_length log_length
areas_ok blocks n block_length log_length is =
    let one = need_ok (nat_eq block_length 512) _ _ tt is in
    let two = need_ok (nat_eq log_length 2048) _ _ tt one.1 in
    let three = need_ok (nat_lt n blocks) _ _ tt two.1 in
    record { block_area = eqb-true block_length 512 one.0; record_area = eqb-true log_length 2048 two.0; inside = ltb-true n blocks three.0 }

areas_pass : (blocks n block_length log_length : ℕ) → Fit blocks n block_length log_length → areas_check blocks n block_length log_length ≡ Ok tt
areas_pass blocks n block_length log_length fit =
    cond-true (nat_eq block_length 512) _ _ (eq-eqb block_length 512 fit.block_area) ∙ (cond-true (nat_eq log_length 2048) _ _ (eq-eqb log_length 2048 fit.record_area) ∙ cond-true (nat_lt n blocks) _ _ (lt-ltb n blocks fit.inside))

-- an open volume that passes a check with more checks after it
fit_ok : (n block_length log_length : ℕ) (q p : Open) → next (areas_check q.blocks n block_length log_length) (Ok q) ≡ Ok p → (q ≡ p) × Fit p.blocks n block_length log_length
fit_ok n block_length log_length q p is =
    let parts = next_ok (areas_check q.blocks n block_length log_length) (Ok q) p is in
    let same : Some q ≡ Some p = cc in
    let here : q ≡ p = same_open q p same in
    (here, subst (λ o. Fit o.blocks n block_length log_length) here (areas_ok q.blocks n block_length log_length parts.0))

fit_pass : (n block_length log_length : ℕ) (p : Open) → Fit p.blocks n block_length log_length → next (areas_check p.blocks n block_length log_length) (Ok p) ≡ Ok p
fit_pass n block_length log_length p fit = next_pass (areas_check p.blocks n block_length log_length) (Ok p) (areas_pass p.blocks n block_length log_length fit)

module _ (present : Option Open) (p : Open) where
  -- an open volume with no slip out
  pub begin_ok : begin_check present ≡ Ok p → (present ≡ Some p) × (p.slip_out ≡ false)
  begin_ok is =
      let found = open_ok_at present (λ q. unless q.slip_out 42 (Ok q)) p is in
      let q : Open = found.0 in
      let parts = unless_ok q.slip_out 42 (Ok q) p found.2 in
      let same : Some q ≡ Some p = cc in
      let here : q ≡ p = same_open q p same in
      (found.1 ∙ same, sym (ap (λ o. o.slip_out) here) ∙ parts.0)

  pub begin_pass : present ≡ Some p → p.slip_out ≡ false → begin_check present ≡ Ok p
  begin_pass here none_out = open_pass_at present (λ q. unless q.slip_out 42 (Ok q)) p here ∙ cond-false p.slip_out _ _ none_out

  -- an open volume, right areas, and the number of a block
  pub read_ok : (n block_length log_length : ℕ) → read_check present n block_length log_length ≡ Ok p → (present ≡ Some p) × Fit p.blocks n block_length log_length
  read_ok n block_length log_length is =
      let found = open_ok_at present (λ q. next (areas_check q.blocks n block_length log_length) (Ok q)) p is in
      let parts = fit_ok n block_length log_length found.0 p found.2 in
      (found.1 ∙ ap Some parts.0, parts.1)

  pub read_pass : (n block_length log_length : ℕ) → present ≡ Some p → Fit p.blocks n block_length log_length → read_check present n block_length log_length ≡ Ok p
  read_pass n block_length log_length here fit = open_pass_at present (λ q. next (areas_check q.blocks n block_length log_length) (Ok q)) p here ∙ fit_pass n block_length log_length p fit

  module _ (number slip : ℕ) where
    -- an open volume with this slip out
    pub slip_ok : slip_check present number slip ≡ Ok p → (present ≡ Some p) × (p.slip_out ≡ true) × (slip ≡ number)
    slip_ok is =
        let found = open_ok_at present (λ q. need (q.slip_out && nat_eq slip number) 43 (Ok q)) p is in
        let q : Open = found.0 in
        let parts = need_ok (q.slip_out && nat_eq slip number) 43 (Ok q) p found.2 in
        let both = and_parts q.slip_out (nat_eq slip number) parts.0 in
        let same : Some q ≡ Some p = cc in
        let here : q ≡ p = same_open q p same in
        (found.1 ∙ same, sym (ap (λ o. o.slip_out) here) ∙ both.0, eqb-true slip number both.1)

    pub slip_pass : present ≡ Some p → p.slip_out ≡ true → slip ≡ number → slip_check present number slip ≡ Ok p
    slip_pass here out same =
        open_pass_at present (λ q. need (q.slip_out && nat_eq slip number) 43 (Ok q)) p here
        ∙ cond-true (p.slip_out && nat_eq slip number) _ _ (and_from p.slip_out (nat_eq slip number) out (eq-eqb slip number same))

    after_ok : (n block_length log_length : ℕ) (r : Result Open Reason) → after r (λ q. next (areas_check q.blocks n block_length log_length) (Ok q)) ≡ Ok p → (r ≡ Ok p) × Fit p.blocks n block_length log_length
    after_ok n block_length log_length (Err e) is = absurd (ok_not_err p e (sym is))
    after_ok n block_length log_length (Ok q) is = let parts = fit_ok n block_length log_length q p is in (ap Ok parts.0, parts.1)

    -- that, and right areas and the number of a block
    pub write_ok : (n block_length log_length : ℕ) → write_check present number slip n block_length log_length ≡ Ok p
        → (present ≡ Some p) × (p.slip_out ≡ true) × (slip ≡ number) × Fit p.blocks n block_length log_length
    write_ok n block_length log_length is =
        let parts = after_ok n block_length log_length (slip_check present number slip) is in let held = slip_ok parts.0 in (held.0, held.1, held.2, parts.1)

    pub write_pass : (n block_length log_length : ℕ) → present ≡ Some p → p.slip_out ≡ true → slip ≡ number → Fit p.blocks n block_length log_length → write_check present number slip n block_length log_length ≡ Ok p
    write_pass n block_length log_length here out same fit =
        ap (λ r. after r (λ q. next (areas_check q.blocks n block_length log_length) (Ok q))) (slip_pass here out same) ∙ fit_pass n block_length log_length p fit

-- the register was formatted, and the devices have the counts that it asks for
pub record Registered (blocks kind hash_kind store_blocks tree_blocks : ℕ) : Type 0 where
  pub formatted : 0 < blocks
  pub of_kind : kind ≡ hash_kind
  pub store_count : store_blocks ≡ blocks
  pub tree_count : total blocks ≤ tree_blocks

register_ok : (blocks kind hash_kind store_blocks tree_blocks : ℕ) → register_check blocks kind hash_kind store_blocks tree_blocks ≡ Ok tt → Registered blocks kind hash_kind store_blocks tree_blocks
register_ok blocks kind hash_kind store_blocks tree_blocks is =
    let one = need_ok (nat_lt 0 blocks) _ _ tt is in
    let two = need_ok (nat_eq kind hash_kind) _ _ tt one.1 in
    let three = need_ok (nat_eq store_blocks blocks) _ _ tt two.1 in
    let four = unless_ok (nat_lt tree_blocks (total blocks)) _ _ tt three.1 in
    record { formatted = ltb-true 0 blocks one.0; of_kind = eqb-true kind hash_kind two.0; store_count = eqb-true store_blocks blocks three.0; tree_count = ltb-false tree_blocks (total blocks) four.0 }

register_pass : (blocks kind hash_kind store_blocks tree_blocks : ℕ) → Registered blocks kind hash_kind store_blocks tree_blocks → register_check blocks kind hash_kind store_blocks tree_blocks ≡ Ok tt
register_pass blocks kind hash_kind store_blocks tree_blocks r =
    cond-true (nat_lt 0 blocks) _ _ (lt-ltb 0 blocks r.formatted)
    ∙ (cond-true (nat_eq kind hash_kind) _ _ (eq-eqb kind hash_kind r.of_kind) ∙ (cond-true (nat_eq store_blocks blocks) _ _ (eq-eqb store_blocks blocks r.store_count) ∙ cond-false (nat_lt tree_blocks (total blocks)) _ _ (le-ltb tree_blocks (total blocks) r.tree_count)))

-- the devices have counts that may be formatted
pub record MayFormat (store_blocks tree_blocks : ℕ) : Type 0 where
  pub least : 1 ≤ store_blocks
  pub most : store_blocks ≤ 4096
  pub tree_count : total store_blocks ≤ tree_blocks

counts_ok : (store_blocks tree_blocks : ℕ) → counts_check store_blocks tree_blocks ≡ Ok tt → MayFormat store_blocks tree_blocks
counts_ok store_blocks tree_blocks is =
    let one = need_ok (nat_lt 0 store_blocks && nat_lt store_blocks 4097) _ _ tt is in
    let both = and_parts (nat_lt 0 store_blocks) (nat_lt store_blocks 4097) one.0 in
    let two = unless_ok (nat_lt tree_blocks (total store_blocks)) _ _ tt one.1 in
    let low : 0 < store_blocks = ltb-true 0 store_blocks both.0 in
    let high : store_blocks < 4097 = ltb-true store_blocks 4097 both.1 in
    record { least = omega arith; most = omega arith; tree_count = ltb-false tree_blocks (total store_blocks) two.0 }

counts_pass : (store_blocks tree_blocks : ℕ) → MayFormat store_blocks tree_blocks → counts_check store_blocks tree_blocks ≡ Ok tt
counts_pass store_blocks tree_blocks may =
    let low : 0 < store_blocks = omega (arith, may.least) in
    let high : store_blocks < 4097 = omega (arith, may.most) in
    cond-true (nat_lt 0 store_blocks && nat_lt store_blocks 4097) _ _ (and_from (nat_lt 0 store_blocks) (nat_lt store_blocks 4097) (lt-ltb 0 store_blocks low) (lt-ltb store_blocks 4097 high))
    ∙ cond-false (nat_lt tree_blocks (total store_blocks)) _ _ (le-ltb tree_blocks (total store_blocks) may.tree_count)

module _ (present : Option Open) where
  -- a closed volume, and such a register
  pub open_ok : (blocks kind hash_kind store_blocks tree_blocks : ℕ) → open_check present blocks kind hash_kind store_blocks tree_blocks ≡ Ok tt → (present ≡ None) × Registered blocks kind hash_kind store_blocks tree_blocks
  open_ok blocks kind hash_kind store_blocks tree_blocks is =
      let parts = closed_ok present (register_check blocks kind hash_kind store_blocks tree_blocks) tt is in (parts.0, register_ok blocks kind hash_kind store_blocks tree_blocks parts.1)

  pub open_pass : (blocks kind hash_kind store_blocks tree_blocks : ℕ) → present ≡ None → Registered blocks kind hash_kind store_blocks tree_blocks → open_check present blocks kind hash_kind store_blocks tree_blocks ≡ Ok tt
  open_pass blocks kind hash_kind store_blocks tree_blocks here r =
      closed_pass present (register_check blocks kind hash_kind store_blocks tree_blocks) here ∙ register_pass blocks kind hash_kind store_blocks tree_blocks r

  -- a closed volume, and counts that may be formatted
  pub format_ok : (store_blocks tree_blocks : ℕ) → format_check present store_blocks tree_blocks ≡ Ok tt → (present ≡ None) × MayFormat store_blocks tree_blocks
  format_ok store_blocks tree_blocks is = let parts = closed_ok present (counts_check store_blocks tree_blocks) tt is in (parts.0, counts_ok store_blocks tree_blocks parts.1)

  pub format_pass : (store_blocks tree_blocks : ℕ) → present ≡ None → MayFormat store_blocks tree_blocks → format_check present store_blocks tree_blocks ≡ Ok tt
  format_pass store_blocks tree_blocks here may = closed_pass present (counts_check store_blocks tree_blocks) here ∙ counts_pass store_blocks tree_blocks may

-- what look looks at passes
pub look_pass : (blocks kind hash_kind store_blocks tree_blocks n block_length log_length : ℕ) → Registered blocks kind hash_kind store_blocks tree_blocks → Fit blocks n block_length log_length
    → look_check blocks kind hash_kind store_blocks tree_blocks n block_length log_length ≡ Ok tt
look_pass blocks kind hash_kind store_blocks tree_blocks n block_length log_length registered fit =
    next_pass (register_check blocks kind hash_kind store_blocks tree_blocks) (areas_check blocks n block_length log_length) (register_pass blocks kind hash_kind store_blocks tree_blocks registered)
    ∙ areas_pass blocks n block_length log_length fit

-- if it is a refusal, it is none of an unwritten block
abbrev pub Mild : {A : Type 0} → Result A Reason → Type 0
Mild r = MatchResult r (λ a. Unit {0}) (λ e. nat_eq e.number 53 ≡ false)

pub mild_err : {A : Type 0} (r : Result A Reason) (e : Reason) → Mild r → r ≡ Err e → nat_eq e.number 53 ≡ false
mild_err {A} r e mild is = let P : Result A Reason → Type 0 = λ x. Mild x in subst P is mild

mild_areas : {A : Type 0} (blocks n block_length log_length : ℕ) (a : A) → Mild (next (areas_check blocks n block_length log_length) (Ok a))
mild_areas {A} blocks n block_length log_length a =
    let P : Result Unit Reason → Type 0 = λ r. Mild (next {A = A} r (Ok a)) in
    cond_both (nat_eq block_length 512) _ _ P (λ one. cond_both (nat_eq log_length 2048) _ _ P (λ two. cond_both (nat_lt n blocks) _ _ P (λ three. tt) (λ no. refl)) (λ no. refl)) (λ no. refl)

mild_slip : (number slip : ℕ) (present : Option Open) → Mild (slip_check present number slip)
mild_slip number slip None = refl
mild_slip number slip (Some q) = let P : Result Open Reason → Type 0 = λ r. Mild r in cond_both (q.slip_out && nat_eq slip number) _ _ P (λ yes. tt) (λ no. refl)

mild_after : (n block_length log_length : ℕ) (r : Result Open Reason) → Mild r → Mild (after r (λ q. next (areas_check q.blocks n block_length log_length) (Ok q)))
mild_after n block_length log_length (Err e) mild = mild
mild_after n block_length log_length (Ok q) mild = mild_areas q.blocks n block_length log_length q

-- no check of a write refuses with an unwritten block
pub mild_write : (present : Option Open) (number slip n block_length log_length : ℕ) → Mild (write_check present number slip n block_length log_length)
mild_write present number slip n block_length log_length = mild_after n block_length log_length (slip_check present number slip) (mild_slip number slip present)

-- if it is a refusal, it is one of a call that got past its checks
abbrev pub Past : {A : Type 0} → Result A Reason → Type 0
Past r = MatchResult r (λ a. Unit {0}) (λ e. is_some e.stuck ≡ true)

pub past_err : {A : Type 0} (r : Result A Reason) (e : Reason) → Past r → r ≡ Err e → is_some e.stuck ≡ true
past_err {A} r e past is = let P : Result A Reason → Type 0 = λ x. Past x in subst P is past

module _ (image : List ℕ → List ℕ) (m : Meaning) (blocks n : ℕ) where
  -- nor does its walk
  pub mild_walk : (l : ℕ) (expected log : List ℕ) (answer : Result (List ℕ) Reason) (left : List ℕ) → Walked image m blocks n l expected log answer left → Mild answer
  mild_walk zero expected log answer left w = let P : Result (List ℕ) Reason → Type 0 = λ r. Mild r in subst P (sym w.0) tt
  mild_walk (suc l) expected log answer left w =
      let P : Result (List ℕ) Reason → Type 0 = λ r. Mild r in tried_elim image (Mild answer) w (λ bytes passes rest. mild_walk l _ _ answer left rest) (λ why none stuck. subst P (sym stuck.0) refl)

  -- a walk is past the checks
  pub past_walk : (l : ℕ) (expected log : List ℕ) (answer : Result (List ℕ) Reason) (left : List ℕ) → Walked image m blocks n l expected log answer left → Past answer
  past_walk zero expected log answer left w = let P : Result (List ℕ) Reason → Type 0 = λ r. Past r in subst P (sym w.0) tt
  past_walk (suc l) expected log answer left w =
      let P : Result (List ℕ) Reason → Type 0 = λ r. Past r in tried_elim image (Past answer) w (λ bytes passes rest. past_walk l _ _ answer left rest) (λ why none stuck. subst P (sym stuck.0) refl)

-- a read past its checks answers as one that walked
pub fetch_walked : (image : List ℕ → List ℕ) (store tree : Meaning) (blocks n : ℕ) (root : List ℕ) (answer : Result Unit Reason) (block left : List ℕ) → Fetched image store tree blocks n root answer block left → walked answer ≡ true
fetch_walked image store tree blocks n root answer block left f =
    on f.walked (past_walk image tree blocks n _ _ _ f.walked f.passed f.walk) f.fetch
  where
    P : Result Unit Reason → Type 0
    P a = walked a ≡ true

    on : (r : Result (List ℕ) Reason) → Past r → MatchResult r (λ expected. FetchedBlock image store n expected f.passed answer block left) (λ e. (answer ≡ Err e) × (block ≡ zeros) × (left ≡ f.passed)) → walked answer ≡ true
    on (Ok expected) past fetch = tried_elim image (walked answer ≡ true) fetch (λ bytes passes came. subst P (sym came.0) refl) (λ why none stuck. subst P (sym stuck.0) refl)
    on (Err e) past fetch = subst P (sym fetch.0) past

-- and so does a write
pub write_walked : (failed : Option Stuck) → walked (unwritten failed) ≡ true
write_walked None = refl
write_walked (Some stuck) = refl
