use Rattle.std.proofs.Common.{◌≡◌, ℕ, ◌-◌, ◌≤◌, true, false, List, ◌++◌, length, replicate, Some, None, Option, sym, ap, ◌∙◌, arith, MatchOption}
use borrow.Rule.Slice.PartMut.{post_of}
use Rattle.std.proofs.lemmas.List.{drop-replicate}
use Rattle.sim.specs.Identity.{digit_run, is_padded, is_identity, padded}
use Rattle.sim.specs.declared.identity.Identity.{Identity}
use Rattle.sim.proofs.Padding.{identity_long, identity_mixed, padded_is}
use Rattle.sim.proofs.identity.Identity.new.Goals as goal
use Rattle.sim.proofs.identity.Identity.new.Goals.{then-n-gt20-via-then-n-gt20, then-n-gt20-via-else-n-gt20+then-digit_run-n}

pub returns-then-n-gt20 : goal.returns-then-n-gt20
returns-then-n-gt20 c = elim c.then-n-gt20.branch [
  | then-n-gt20-via-then-n-gt20 w ↦ identity_long c.args.text.now w.if-n-gt20.true
  | then-n-gt20-via-else-n-gt20+then-digit_run-n w ↦ identity_mixed c.args.text.now (λ e. w.if-digit_run-n.true (w.digit_run.ensures.value ∙ e))
]

told : (text : List ℕ) {digits : List ℕ} (r : Option Identity) → MatchOption r (is_padded digits ≡ false) (λ i. (is_padded digits ≡ true) × (i.digits ≡ digits)) → digits ≡ padded text → length text ≤ 20 → digit_run text ≡ length text → MatchOption r (is_identity text ≡ false) (λ i. (is_identity text ≡ true) × (i.digits ≡ padded text))
told text None h e high all = sym (padded_is text high all) ∙ ap is_padded (sym e) ∙ h
told text (Some i) h e high all = (sym (padded_is text high all) ∙ ap is_padded (sym e) ∙ h.0, h.1 ∙ e)

written : (text front : List ℕ) → front ≡ text → front ++ post_of 0 (length text - 0) (replicate 20 0) ≡ padded text
unfolding padded
written text front e = let none : length text - 0 ≡ length text = omega arith in rw (none, e, drop-replicate {X = ℕ} (length text) 20 0)

pub returns : goal.returns
returns c =
    told c.args.text.now c.from_padded.result c.from_padded.ensures (written c.args.text.now _ c.copy_from_slice.ensures.after) c.if-n-gt20.false (sym c.digit_run.ensures.value ∙ c.if-digit_run-n.false)
