use Rattle.std.proofs.Common.{◌≡◌, ◌<◌, ℕ, None}
use Rattle.device.specs.Lines.{line}
use Rattle.device.proofs.lines.Lines.none_held.Given as goal

-- the lines so far are empty
abbrev pub invariant-loop-line : goal.invariant-loop-line
invariant-loop-line l = (j : ℕ) → j < l.line-index → line l.self.lines j ≡ None
