use Rattle.std.proofs.Common.{ap, ◌∙◌, sym, arith}
use Rattle.device.specs.LinesLaws.{held_at, held_not, inside}
use Rattle.device.specs.Lines.{held}
use Rattle.device.proofs.lines.Lines.find.Goals as goal

pub returns-in-loop-line : goal.returns-in-loop-line
returns-in-loop-line c =
    let lines = c.args.self.now in
    ap (held lines.lines) (sym c.if-line-number.true) ∙ held_at lines.lines c.loop-line.line-index c.in-Some.line lines.distinct c.in-Some.is

pub returns : goal.returns
returns c =
    let lines = c.args.self.now in
    held_not lines.lines c.args.number (λ j a there. c.loop-line.invariant j a (omega (arith, inside lines.lines j a there, c.loop-line.auto.line-index-end)) there)
