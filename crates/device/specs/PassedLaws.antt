-- What the law of the device below gives for a call that is passed down to it.
use Rattle.std.specs.Prelude.{ℕ, Bool, List, Result}
use Rattle.std.proofs.Common.{sym, ap, subst}
use Rattle.device.specs.declared.fault.Fault.{Fault}
use Rattle.device.specs.Faults.{passed_up}
use Rattle.device.specs.Meaning.{Cell, Exists, KeepsReads, MayAnswer, Meaning, Settled, Written, loose, sure}
use Rattle.device.specs.Passed.{PassedRead, PassedSettle, PassedWrite}

-- what a cell may answer, it may answer a layer higher
pub may_pass_up : (c : Cell) (answer : Result (List ℕ) Fault) → MayAnswer c answer → MayAnswer c (passed_up answer)
may_pass_up (sure block) answer is = ap passed_up is
may_pass_up loose answer is = tt

-- so a read that is passed down answers what the cell below may answer
pub passed_may : {X D : Type 0} {meaning : D → Meaning} {reads : D → ℕ → ℕ → Result (List ℕ) Fault → D → Type 0} {below : D} {way n : ℕ} {answer : Result (List ℕ) Fault}
    {with_below : D → X} {t : X} → KeepsReads meaning reads → Exists (meaning below) way n → PassedRead reads below way n answer with_below t → MayAnswer ((meaning below).cell way n) answer
passed_may {meaning = meaning} {below = below} {way = way} {n = n} keeps e w =
    let c : Cell = (meaning below).cell way n in
    subst (MayAnswer c) (sym w.answered) (may_pass_up c w.answer_below ((keeps.answers w.step).then_cell e))

-- what a write does is said of the answer and the state by which it is known
pub passed_written : {X D : Type 0} (meaning : X → Meaning) {m : Meaning} {n k : ℕ} {block : List ℕ} {writes : D → ℕ → List ℕ → Result Unit Fault → D → Type 0} {below : D}
    {answer : Result Unit Fault} {with_below : D → X} {t : X} (w : PassedWrite writes below k block answer with_below t) →
    Written m n block (passed_up w.answer_below) (meaning (with_below w.below')) → Written m n block answer (meaning t)
passed_written meaning {m} {n} {k} {block} {t = t} w so =
    subst (λ (a : Result Unit Fault). Written m n block a (meaning t)) (sym w.answered)
    (subst (λ u. Written m n block (passed_up w.answer_below) (meaning u)) (sym w.after) so)

-- and of a settle
pub passed_settled : {X D : Type 0} (meaning : X → Meaning) {m : Meaning} {settles : D → Bool → D → Type 0} {below : D} {answer : Bool} {with_below : D → X} {t : X}
    (w : PassedSettle settles below answer with_below t) → Settled m answer (meaning (with_below w.below')) → Settled m answer (meaning t)
passed_settled meaning {m} {answer = answer} w so = subst (λ u. Settled m answer (meaning u)) (sym w.after) so
