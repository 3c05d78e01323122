use Rattle.std.proofs.Common.{◌≡◌, ◌∙◌, sym, arith}
use Rattle.geometry.specs.Geometry.{up}
use Rattle.volume.specs.Format.{alike}
use Rattle.volume.proofs.Zeros.{pack_alike}
use Rattle.volume.proofs.format.Level.over.Goals as goal

pub returns-clause-blocks : goal.returns-clause-blocks
returns-clause-blocks c =
    let blocks : up c.args.count ≡ c.div_ceil.result = omega arith in
    pack_alike c.args.count c.args.others.now c.args.last.now c.requires.0 ∙ (λ k. alike (blocks k) (sym c.block_of.ensures k) (sym c.block_of-2.ensures k))
