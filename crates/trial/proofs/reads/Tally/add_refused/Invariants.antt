use Rattle.std.proofs.Common.{◌≡◌, ◌++◌, take}
use Rattle.std.specs.Prelude.{string_bytes}
use Rattle.trial.specs.Drill.{refused_lines}
use Rattle.trial.proofs.reads.Tally.add_refused.Given as goal

abbrev pub invariant-loop-read : goal.invariant-loop-read
invariant-loop-read l = string_bytes l.report ≡ string_bytes l.initial.report ++ refused_lines (take l.read-index l.read-items)
