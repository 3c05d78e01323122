-- How the rounds of a block come on, four at a time.
use Rattle.std.specs.Prelude.{◌≡◌, ℕ, ◌+◌, ◌-◌, ◌≤◌, List, ◌++◌, take, drop, length}
use Rattle.std.proofs.Common.{ap, sym, subst, ◌∙◌, arith}
use Rattle.digest.specs.Halfway.{HasSums, Halfway, Left, words_of}
use Rattle.digest.specs.Roots.{K}
use Rattle.digest.specs.Sha256.{rounds, slide}
use Rattle.digest.specs.declared.schedule.Window.{Window}
use Rattle.digest.specs.declared.variables.Variables.{Variables}
use Rattle.digest.proofs.FourRounds.{four_on}
use Rattle.digest.proofs.Sums.{Put, put_here, put_kept}

-- sums stand at a place that is written in another way
at : (sums : List ℕ) (s t : ℕ) (words : List ℕ) → s ≡ t → HasSums sums s words → HasSums sums t words
at sums s t words e has = subst (λ n. HasSums sums n words) e has

pub moved_on
    : (start v later : Variables) (block old new : List ℕ) (t : ℕ) (w x : Window)
    → t + 20 ≤ 64
    → length old ≡ 64
    → length x.w3 ≡ 4
    → ((words : List ℕ) → HasSums old t words → later ≡ rounds v (take 4 (drop t K)) words)
    → words_of x ≡ slide (slide (slide (slide (words_of w))))
    → (x.w0 ≡ w.w1) × (x.w1 ≡ w.w2) × (x.w2 ≡ w.w3)
    → Put old new (t + 16) x.w3
    → Halfway start block old t v w
    → Halfway start block new (t + 4) later x
moved_on start v later block old new t w x room long wide turn words same put half =
    let kept = put_kept old new (t + 16) x.w3 long (omega (arith, room)) put in
    let fewer : 64 - (t + 4) ≡ 60 - t = omega arith in
    let before : 60 - t + 4 ≡ 64 - t = omega (arith, room) in
    record {
      first = subst (HasSums new (t + 4)) (sym same.0) (kept (t + 4) w.w1 (omega arith) half.second);
      second = at new (t + 8) (t + 4 + 4) x.w1 (omega arith) (subst (HasSums new (t + 8)) (sym same.1) (kept (t + 8) w.w2 (omega arith) half.third));
      third = at new (t + 12) (t + 4 + 8) x.w2 (omega arith) (subst (HasSums new (t + 12)) (sym same.2) (kept (t + 12) w.w3 (omega arith) half.fourth));
      fourth = at new (t + 16) (t + 4 + 12) x.w3 (omega arith) (put_here old new (t + 16) x.w3 long (omega (arith, room)) wide put);
      left =
          rw (fewer, turn w.w0 half.first)
          (four_on t (60 - t) (omega (arith, room)) v w.w0 (w.w1 ++ (w.w2 ++ w.w3)) (words_of x) half.first.0 words
          ∙ ap (λ n. Left t n v (words_of w)) before
          ∙ half.left);
    }
