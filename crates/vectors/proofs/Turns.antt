-- One line after another.
use Rattle.std.proofs.Common.{◌≡◌, ℕ, ◌+◌, ◌<◌, Bool, true, false, cond, List, [], ◌∷◌, length, get_or, is_some, Decides, Option, refl, arith, eq-eqb, ne_eqb}
use Rattle.std.specs.Str.Lines.{IsFirstLine}
use Rattle.vectors.specs.declared.tally.Problem.{Problem}
use Rattle.vectors.specs.declared.tally.Tally.{Tally}
use Rattle.vectors.specs.First.{first_fault}
use Rattle.vectors.specs.declared.suite.Suite.{Suite}
use Rattle.vectors.specs.Vectors.{LinesOf, Counts, Judged, Tallies, comment}

-- what the n lines before rest made of the tally goes on to that of the whole text
abbrev pub Sofar : Suite → List ℕ → List ℕ → ℕ → Tally → Type 0
Sofar suite text rest n t =
    (end : Tally) (lines : List (List ℕ)) → LinesOf rest lines → Counts suite lines (n + 1) t.total t.agree t.fault end → Tallies suite text end

module _ (suite : Suite) (text rest : List ℕ) (n : ℕ) (t : Tally) (so_far : Sofar suite text rest n t) where
  pub all : length rest ≡ 0 → Tallies suite text t
  all empty = so_far t [] empty (refl, refl, refl)

  pub skip : (line next : List ℕ) (m : ℕ) → m ≡ n + 1 → 0 < length rest → IsFirstLine rest line next → comment line ≡ true → Sofar suite text next m t
  skip line next m one more cut is end lines of counts =
      so_far end (line ∷ lines) (more, (next, cut, of)) (rw is (rw one at counts))

  pub count
      : (line next : List ℕ) (m : ℕ) (p : Option Problem) (u : Tally)
      → m ≡ n + 1
      → 0 < length rest
      → IsFirstLine rest line next
      → comment line ≡ false
      → Judged suite line p
      → u.total ≡ t.total + 1
      → u.agree ≡ t.agree + cond (is_some p) 0 1
      → u.fault ≡ first_fault t.fault (n + 1) p
      → Sofar suite text next m u
  count line next m p u one more cut is judged total agree fault end lines of counts =
      so_far end (line ∷ lines) (more, (next, cut, of)) (rw is (p, judged, rw (one, total, agree, fault) at counts))

-- a test for `#` in front is the test for a comment
pub tested : (line : List ℕ) (r : Bool) → Decides r (get_or line 0 0 ≡ 35) → comment line ≡ r
tested line true h = eq-eqb _ 35 (h.0 refl)
tested line false h = ne_eqb _ 35 (λ e. let z : ◌≡◌ {A = Bool} false true = h.1 e in absurd (let w : ◌≡◌ {A = ℕ} 0 1 = cc in omega arith))
