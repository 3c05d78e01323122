-- One pass over the lines finds the slot of a block.
use Rattle.std.proofs.Common.{◌≡◌, ℕ, ◌+◌, ◌-◌, ◌^◌, ◌<◌, ◌≤◌, ◌⊎◌, inl, inr, List, length, Option, Some, None, MatchOption, refl, ◌∙◌, ap, subst, ⊎_elim, arith}
use Rattle.std.specs.Option.{option_or}
use Rattle.device.specs.declared.lines.Line.{Line}
use Rattle.device.specs.declared.lines.Seen.{Seen}
use Rattle.device.specs.Lines.{line, FirstHold, IsLeastUsed, IsLowestEmpty, NoLineOf, NotAfter}
use Rattle.device.specs.LinesLaws.{below_or_last, inside}
use Rattle.device.specs.Seen.{IsBetterOf, seen_at, taken, stays}

-- what the first k lines show: none of them holds block n; the lowest empty one; and the one that is written least, if any holds a block
pub record Scanned (lines : List (Option Line)) (n k : ℕ) (empty : Option ℕ) (seen : Seen) : Type 0 where
  pub not_held : (j : ℕ) (a : Line) → j < k → line lines j ≡ Some a → a.number ≡ n → ⊥
  pub lowest : MatchOption empty (FirstHold lines k) (λ e. IsLowestEmpty lines e)
  pub found : ((j : ℕ) → j < k → line lines j ≡ None) × (seen.count ≡ 255) × (seen.number ≡ 2 ^ 64 - 1) ⊎ ((a : Line) × (line lines seen.at ≡ Some a) × (seen ≡ seen_at seen.at a))
  pub least : (j : ℕ) (b : Line) → j < k → line lines j ≡ Some b → NotAfter seen.count seen.number b.count b.number

not_after_both : {count number count' number' count'' number'' : ℕ} → NotAfter count number count' number' → NotAfter count' number' count'' number'' → NotAfter count number count'' number''
not_after_both = ⊎_elim
    (λ fewer. ⊎_elim (λ more. inl (omega (arith, fewer, more))) (λ same. inl (omega (arith, fewer, same.0))))
    (λ lower. ⊎_elim (λ more. inl (omega (arith, lower.0, more))) (λ same. inr (lower.0 ∙ same.0, omega (arith, lower.1, same.1))))

module _ (lines : List (Option Line)) (n k : ℕ) where
  -- the next line is empty
  pub scanned_empty : {empty : Option ℕ} {seen : Seen} → Scanned lines n k empty seen → k < length lines → line lines k ≡ None → Scanned lines n (k + 1) (option_or empty (Some k)) seen
  scanned_empty {empty} {seen} r inside is =
      record {
        not_held = λ j a h there. ⊎_elim (λ below. r.not_held j a below there) (λ same. let gone : None ≡ Some a = cc in absurd cc) (below_or_last j k h);
        lowest = lowest_so empty r.lowest;
        found = ⊎_elim (λ nothing. inl ((λ j h. ⊎_elim (nothing.0 j) (λ same. cc) (below_or_last j k h)), nothing.1, nothing.2)) (λ some. inr some) r.found;
        least = λ j b h there. ⊎_elim (λ below. r.least j b below there) (λ same. let gone : None ≡ Some b = cc in absurd cc) (below_or_last j k h);
      }
    where
      lowest_so : (was : Option ℕ) → MatchOption was (FirstHold lines k) (λ e. IsLowestEmpty lines e) →
          MatchOption (option_or was (Some k)) (FirstHold lines (k + 1)) (λ e. IsLowestEmpty lines e)
      lowest_so None hold = record { inside = inside; empty = is; lowest = hold }
      lowest_so (Some old) low = low

  -- the next line holds another block
  pub scanned_line : {empty : Option ℕ} {seen new : Seen} {a : Line} → Scanned lines n k empty seen → line lines k ≡ Some a → (a.number ≡ n → ⊥) →
      a.count ≤ 255 → a.number ≤ 2 ^ 64 - 1 → IsBetterOf seen k a new → Scanned lines n (k + 1) empty new
  scanned_line {empty} {seen} {new} {a} r there other few low better =
      record {
        not_held = λ j b h at_j. ⊎_elim (λ below. r.not_held j b below at_j) (λ same. let one : Some a ≡ Some b = cc in let one : a ≡ b = cc in λ is. other (cc)) (below_or_last j k h);
        lowest = lowest_so empty r.lowest;
        found = found_so better;
        least = λ j b h at_j. ⊎_elim (λ below. least_below better b (r.least j b below at_j)) (λ same. let one : Some a ≡ Some b = cc in let one : a ≡ b = cc in subst (λ (l : Line). NotAfter new.count new.number l.count l.number) one (least_here better)) (below_or_last j k h);
      }
    where
      lowest_so : (was : Option ℕ) → MatchOption was (FirstHold lines k) (λ e. IsLowestEmpty lines e) → MatchOption was (FirstHold lines (k + 1)) (λ e. IsLowestEmpty lines e)
      lowest_so None hold = λ j h is. ⊎_elim (λ below. hold j below is) (λ same. let gone : None ≡ Some a = cc in absurd cc) (below_or_last j k h)
      lowest_so (Some old) low = low

      found_so : IsBetterOf seen k a new → ((j : ℕ) → j < k + 1 → line lines j ≡ None) × (new.count ≡ 255) × (new.number ≡ 2 ^ 64 - 1) ⊎ ((a : Line) × (line lines new.at ≡ Some a) × (new ≡ seen_at new.at a))
      found_so (taken is before) = inr (a, rw is there, rw is refl)
      found_so (stays is after) = ⊎_elim (λ nothing. absurd (⊎_elim (λ fewer. omega (arith, nothing.1)) (λ lower. omega (arith, nothing.2, lower.1)) after)) (λ some. inr (rw is some)) r.found

      least_below : IsBetterOf seen k a new → (b : Line) → NotAfter seen.count seen.number b.count b.number → NotAfter new.count new.number b.count b.number
      least_below (taken is before) b low = rw is (not_after_both before low)
      least_below (stays is after) b low = rw is low

      least_here : IsBetterOf seen k a new → NotAfter new.count new.number a.count a.number
      least_here (taken is before) = rw is (inr (refl, omega arith))
      least_here (stays is after) = rw is (⊎_elim (λ fewer. inl fewer) (λ lower. inr (lower.0, omega (arith, lower.1))) after)

-- all lines are scanned, and none is empty
pub scanned_all : (lines : List (Option Line)) (n : ℕ) (seen : Seen) → 0 < length lines → Scanned lines n (length lines) None seen →
    NoLineOf lines n × FirstHold lines (length lines) × ((a : Line) × IsLeastUsed lines seen.at a)
scanned_all lines n seen some r = (
  (λ j a there. r.not_held j a (inside lines j a there) there),
  r.lowest,
  ⊎_elim (λ nothing. absurd (r.lowest 0 some (nothing.0 0 some)))
      (λ found. (
        found.0,
        record {
          there = found.1;
          least = λ j b there. let same : seen.count ≡ found.0.count = ap (λ s. s.count) found.2 in let at : seen.number ≡ found.0.number = ap (λ s. s.number) found.2 in
              subst (λ c. NotAfter c found.0.number b.count b.number) same (subst (λ m. NotAfter seen.count m b.count b.number) at (r.least j b (inside lines j b there) there));
        },
      )) r.found,
)
