use Rattle.std.proofs.Common.{rules, ◌≡◌, ◌<◌, length, Some, arith}
use Rattle.device.proofs.Slots.{scanned_all, scanned_empty, scanned_line}
use Rattle.device.proofs.lines.Lines.slot_for.Goals as goal
use Rattle.device.proofs.lines.Lines.slot_for.Goals.{in-Some-2, in-None}

pub loop-at-preserved : goal.loop-at-preserved
loop-at-preserved c = elim c.match-line.branch [
  | in-Some-2 w ↦
      let one : Some w.in-Some.line ≡ Some w.in-Some-2.line = cc in
      let other = λ (same : w.in-Some-2.line.number ≡ c.args.number). w.if-line-number.false cc in
      let next = scanned_line c.args.self.now.lines c.args.number c.loop-at.at c.loop-at.invariant w.in-Some-2.is other w.or-least.ensures.fits.0 w.or-least.ensures.fits.1 w.or-least.ensures.better in
      rw (w.empty-is, w.least-is) next
  | in-None w ↦
      let next = scanned_empty c.args.self.now.lines c.args.number c.loop-at.at c.loop-at.invariant (search rules) w.in-None.is in
      rw (w.empty-is, w.least-is, w.or-empty.ensures) next
]

pub returns-in-None-empty : goal.returns-in-None-empty
returns-in-None-empty c =
    let all : 0 < length c.args.self.now.lines = search rules in
    let eight : length c.args.self.now.lines ≡ 8 = search rules in
    let end : c.loop-at.at ≡ length c.args.self.now.lines = omega (arith, c.loop-at.auto.at-end) in
    scanned_all c.args.self.now.lines c.args.number c.loop-at.least all (rw (← end, ← c.in-None-empty.is) c.loop-at.invariant)
