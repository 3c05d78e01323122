use Rattle.label.proofs.label.Goals as goal

pub returns : goal.returns
returns c = let (sheet, said, made) = c.in_ok-images.ensures in (sheet, said, made.report)
