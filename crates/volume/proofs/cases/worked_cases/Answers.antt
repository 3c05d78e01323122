use Rattle.volume.proofs.Worked.{worked_cases}
use Rattle.volume.proofs.cases.worked_cases.Goals as goal

pub returns-clause-cases : goal.returns-clause-cases
returns-clause-cases c = worked_cases

pub returns-clause-totals : goal.returns-clause-totals
returns-clause-totals c =
    simp (c.total_over.ensures, c.total_over-2.ensures, c.total_over-3.ensures, c.total_over-4.ensures, c.total_over-5.ensures, c.total_over-6.ensures) worked_cases.totals
