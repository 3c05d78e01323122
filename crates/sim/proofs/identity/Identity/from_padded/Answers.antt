use Rattle.std.proofs.Common.{◌≡◌, ℕ, ◌-◌, Bool, List, length, take, drop, sym, ap, ◌∙◌, arith, rules}
use Rattle.std.proofs.lemmas.Slice.{between_to_end}
use Rattle.sim.specs.Identity.{all_zero}
use Rattle.sim.proofs.Padding.{padded_yes, padded_short, padded_tail}
use Rattle.sim.proofs.identity.Identity.from_padded.Goals as goal
use Rattle.sim.proofs.identity.Identity.from_padded.Goals.{then-n-lt6-via-then-n-lt6, then-n-lt6-via-else-n-lt6+then-not-is_zero}

tested : (ds : List ℕ) (n : ℕ) (b : Bool) → length ds ≡ 20 → b ≡ all_zero (take (20 - n) (drop n ds)) → all_zero (drop n ds) ≡ b
tested ds n b long e = sym (e ∙ ap all_zero (between_to_end ds n 20 (omega arith)))

pub returns-then-n-lt6 : goal.returns-then-n-lt6
returns-then-n-lt6 c =
    let short = padded_short c.args.digits c.digit_run-n.result (search rules) c.digit_run-n.ensures.value in
    let tail = padded_tail c.args.digits c.digit_run-n.result (search rules) c.digit_run-n.ensures.value in
    elim c.then-n-lt6.branch [
      | then-n-lt6-via-then-n-lt6 w ↦ short w.if-n-lt6.true
      | then-n-lt6-via-else-n-lt6+then-not-is_zero w ↦ tail (tested c.args.digits c.digit_run-n.result _ (search rules) w.if-not-is_zero.ensures)
    ]

pub invariant_of-result : goal.invariant_of-result
invariant_of-result c =
    let zeros = tested c.args.digits c.digit_run-n.result _ (search rules) c.if-not-is_zero.ensures in
    record { ok = padded_yes c.args.digits c.digit_run-n.result (search rules) c.digit_run-n.ensures.value c.if-n-lt6.false zeros }
