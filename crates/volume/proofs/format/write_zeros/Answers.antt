use Rattle.std.proofs.Common.{◌≡◌, ◌-◌, [], replicate, refl, subst, arith}
use Rattle.tree.specs.Layout.{zero_block}
use Rattle.volume.specs.Writes.{InTurn}
use Rattle.volume.proofs.format.write_zeros.Goals as goal

pub returns : goal.returns
unfolding zero_block
returns g c =
    let before = c.args.device.now in
    let all : c.args.count - 0 ≡ c.args.count = omega arith in
    subst (λ n. InTurn g.D.Device 0 (replicate n zero_block) before c.write_copies.new.device) all (c.write_copies.ensures before [] refl refl)
