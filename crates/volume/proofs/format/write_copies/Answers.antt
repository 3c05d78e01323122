use Rattle.std.proofs.Common.{◌≡◌, ◌-◌, ◌++◌, replicate, subst, sym, ap, ◌∙◌, append-nil, arith}
use Rattle.volume.specs.Writes.{InTurn}
use Rattle.volume.proofs.Zeros.{copied_more}
use Rattle.volume.proofs.format.write_copies.Goals as goal

pub loop-number-init : goal.loop-number-init
loop-number-init g c s before size turn =
    let none : c.args.from - c.args.from ≡ 0 = omega arith in
    subst (λ l. InTurn g.D.Device 0 l s c.args.device.now) (sym (ap (λ k. before ++ replicate k c.args.block.now) none ∙ append-nil before)) turn

pub loop-number-preserved : goal.loop-number-preserved
loop-number-preserved g c s before size turn =
    copied_more g.D.Device s c.loop-number.device c.write.new.self before c.args.block.now c.args.from c.loop-number.number c.write.result size c.loop-number.auto.number (c.loop-number.invariant s before size turn) c.write.ensures.step

pub returns : goal.returns
returns g c s before size turn =
    let last : c.loop-number.number ≡ c.args.to = omega arith in
    subst (λ n. InTurn g.D.Device 0 (before ++ replicate (n - c.args.from) c.args.block.now) s c.loop-number.device) last (c.loop-number.invariant s before size turn)
