use Rattle.std.proofs.Common.{take}
use Rattle.label.specs.Report.{AddsLines}
use Rattle.label.proofs.report.Report.sims.Given as goal

abbrev pub invariant-loop-k : goal.invariant-loop-k
invariant-loop-k l = AddsLines (take l.k l.blocks) l.initial.self l.self
