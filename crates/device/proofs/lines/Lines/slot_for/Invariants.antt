use Rattle.device.proofs.Slots.{Scanned}
use Rattle.device.proofs.lines.Lines.slot_for.Given as goal

abbrev pub invariant-loop-at : goal.invariant-loop-at
invariant-loop-at l = Scanned l.self.lines l.number l.at l.empty l.least
