-- The lines of a text, taken off its front.
use Rattle.std.proofs.Common.{◌≡◌, ℕ, ◌<◌, ◌≤◌, Bool, eqb, List, [], ◌∷◌, length, add-one, one-add, arith}
use Rattle.std.specs.List.{before_first, after_first}
use Rattle.subscriber.specs.Text.{lines}

abbrev newline : ℕ → Bool
newline c = eqb c 10

-- the first line ends at the first newline
pub lines_first : (t : List ℕ) → 0 < length t → lines t ≡ before_first newline t ∷ lines (after_first newline t)
lines_first [] h = absurd (omega arith)
lines_first (c ∷ []) h = grind arith
lines_first (c ∷ d ∷ ds) h = grind (arith, one-add, add-one, lines_first (d ∷ ds) (omega arith))

-- no more lines than bytes
pub lines_fit : (t : List ℕ) → length (lines t) ≤ length t
lines_fit [] = omega arith
lines_fit (c ∷ cs) = grind (arith, lines_fit cs)
