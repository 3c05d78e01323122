use Rattle.sheet_error.proofs.Wording.{range_text}
use Rattle.sheet_error.proofs.shown.CauseDisplay.fmt.Goals as goal

pub returns-in-OutOfRange-clause-writes : goal.returns-in-OutOfRange-clause-writes
returns-in-OutOfRange-clause-writes g c = λ plain ok. rw (c.in-OutOfRange.is, ← range_text c.in-OutOfRange.what, ← c.least-least.ensures, ← c.most-most.ensures.value) (c.write-in-OutOfRange.ensures.writes plain ok)
