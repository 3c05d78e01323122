use Rattle.std.proofs.Common.{◌≡◌, ◌-◌, take, ap, arith}
use Rattle.sim.specs.Identity.{unpadded, digit_run}
use Rattle.sim.proofs.identity.Identity.digits.Goals as goal

pub returns : goal.returns
unfolding unpadded
returns c =
    let count : c.digit_run-n.result - 0 ≡ digit_run c.args.self.now.digits = omega (arith, c.digit_run-n.ensures.value) in
    ap (λ n. take n c.args.self.now.digits) count
