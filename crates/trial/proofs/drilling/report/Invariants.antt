use Rattle.std.proofs.Common.{take}
use Rattle.std.specs.Prelude.{string_bytes}
use Rattle.trial.specs.Drill.{bad_line, last_of}
use Rattle.trial.specs.Trial.{card_device, card_source}
use Rattle.trial.proofs.Runs.{Sofar}
use Rattle.trial.proofs.drilling.report.Given as goal

abbrev pub invariant-loop-run : goal.invariant-loop-run
invariant-loop-run g l = Sofar card_source card_device g.H.Hash l.fn.job.number l.fn.job.hash l.fn.job.sims.now l.fn.job.contents.now.blocks.items (bad_line (last_of l.fn.job.contents.now.blocks.items)) (take l.run-index l.run-items) (string_bytes l.report)
