use Rattle.std.proofs.Common.{◌≡◌, ◌<◌, ℕ, Some}
use Rattle.device.specs.Lines.{line}
use Rattle.device.specs.declared.lines.Line.{Line}
use Rattle.device.proofs.lines.Lines.find.Given as goal

-- none of the lines so far holds the block
abbrev pub invariant-loop-line : goal.invariant-loop-line
invariant-loop-line l = (j : ℕ) (a : Line) → j < l.line-index → line l.self.lines j ≡ Some a → a.number ≡ l.number → ⊥
