use Rattle.std.proofs.Common.{◌≡◌, ℕ, ◌<◌, Some, Result, ap, ◌∙◌, arith}
use Rattle.std.specs.Result.{OkIff, result_ok}
use Rattle.std.proofs.lemmas.Result.{Ok-from_Ok_iff}
use Rattle.std.proofs.lemmas.Bool.{both_ways}
use Rattle.sim.specs.Identity.{is_padded}
use Rattle.sim.proofs.Blocks.{same_sim, block_digits, block_key, block_sequence}
use Rattle.sim.proofs.block.fields.Goals as goal

pub returns-in_err-from_padded : goal.returns-in_err-from_padded
returns-in_err-from_padded c = λ s e.
    let digits = c.in_ok-digits.ensures.cases.0 ∙ block_digits s c.args.block.now e in
    absurd (both_ways _ c.in_err-from_padded.ensures (ap is_padded digits ∙ s.identity.ok))

-- a number that is small enough is converted
converted : {E : Type 0} (r : Result ℕ E) (n k : ℕ) → OkIff r (n < 65536) n → n ≡ k → k < 65536 → result_ok r ≡ Some k
converted r n k h e small = ap result_ok (Ok-from_Ok_iff r (n < 65536) n h (omega arith)) ∙ ap Some e

pub returns-in_err-ok : goal.returns-in_err-ok
returns-in_err-ok c = λ s e.
    let key = block_key s c.args.block.now e _ _ c.in_ok-digits.ensures.cases.1 c.in_ok-key.ensures.cases.0 in
    let is = converted c.try_from.result _ s.key c.try_from.ensures (c.from_le_bytes.ensures ∙ key) s.narrow in
    let none = c.in_err-ok.ensures.value in
    cc

pub returns-in_err-new : goal.returns-in_err-new
returns-in_err-new c = λ s e.
    let value = block_sequence s c.args.block.now e _ _ _ c.in_ok-digits.ensures.cases.1 c.in_ok-key.ensures.cases.1 c.in_ok-sequence.ensures.cases.0 in
    absurd (omega (arith, c.in_err-new.ensures, c.from_le_bytes-2.ensures, value, s.sequence.small))

pub returns : goal.returns
returns c = λ s e.
    let rest = c.in_ok-digits.ensures.cases.1 in
    let digits = c.in_ok-from_padded.ensures.1 ∙ c.in_ok-digits.ensures.cases.0 ∙ block_digits s c.args.block.now e in
    let key = block_key s c.args.block.now e _ _ rest c.in_ok-key.ensures.cases.0 in
    let is = converted c.try_from.result _ s.key c.try_from.ensures (c.from_le_bytes.ensures ∙ key) s.narrow in
    let its : c.in_ok-ok.field-0 ≡ s.key = (let some = c.in_ok-ok.ensures.value in cc) in
    let value = block_sequence s c.args.block.now e _ _ _ rest c.in_ok-key.ensures.cases.1 c.in_ok-sequence.ensures.cases.0 in
    ap Some (same_sim _ s digits its (c.in_ok-new.ensures.1 ∙ c.from_le_bytes-2.ensures ∙ value))
