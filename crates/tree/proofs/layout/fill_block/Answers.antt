use Rattle.std.proofs.Common.{◌+◌, ◌-◌, ◌*◌, refl, ◌∙◌, arith}
use Rattle.tree.specs.Layout.{side_by_side}
use Rattle.tree.proofs.Levels.{image_more}
use Rattle.tree.proofs.layout.fill_block.Goals as goal

pub loop-i-init : goal.loop-i-init
unfolding side_by_side
loop-i-init g c = refl

pub loop-i-preserved : goal.loop-i-preserved
loop-i-preserved g c =
    image_more (g.H.Hash.image c.args.hash.now) (λ b. (g.met.H.Hash.cell c.args.hash.now b).long) c.args.below.now c.loop-i.block c.copy_from_slice.new.self c.loop-i.i (32 * c.loop-i.i + 32 - 32 * c.loop-i.i)
    c.loop-i-test.true (omega arith) c.loop-i.invariant (c.copy_from_slice.ensures.after ∙ c.image_of.ensures)
