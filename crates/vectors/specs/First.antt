-- The first fault of a file stays, whatever comes after it.
use Rattle.std.specs.Prelude.{ℕ, Some, None, Option}
use Rattle.vectors.specs.declared.tally.Problem.{Problem}
use Rattle.vectors.specs.declared.tally.Fault.{Fault}

abbrev pub first_fault : Option Fault → ℕ → Option Problem → Option Fault
first_fault (Some f) line problem = Some f
first_fault None line None = None
first_fault None line (Some p) = Some (record { line = line; problem = p })
