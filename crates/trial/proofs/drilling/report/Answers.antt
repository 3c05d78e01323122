use Rattle.std.proofs.Common.{◌≤◌, arith}
use Rattle.trial.specs.Drill.{runs}
use Rattle.trial.proofs.Runs.{all_of, sofar_more}
use Rattle.trial.proofs.drilling.report.Goals as goal

pub loop-run-preserved : goal.loop-run-preserved
loop-run-preserved g c = let ran = c.in_ok-report_run.ensures in sofar_more _ _ _ _ _ _ _ _ _ _ _ _ _ _ c.loop-run.invariant ran.1 ran.2 (omega arith)

pub returns : goal.returns
returns g c =
    let ran = c.loop-run.invariant in
    let all : 6 ≤ c.loop-run.run-index = omega arith in
    (ran.rest, ran.printed, all_of _ _ _ _ _ _ _ runs _ _ all ran.all_ran)
