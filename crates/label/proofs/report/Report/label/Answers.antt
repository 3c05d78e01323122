use Rattle.label.proofs.report.Report.label.Goals as goal

pub returns : goal.returns
returns c = rw (← c.in_ok-root.ensures) (rw (← c.self.view_is) c.writeln.ensures.bytes)
