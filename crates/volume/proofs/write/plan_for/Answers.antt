use Rattle.std.proofs.Common.{◌∙◌, arith, length-set}
use Rattle.volume.proofs.Plans.{as_planned, planned_more, risen_more}
use Rattle.volume.proofs.write.plan_for.Goals as goal

pub loop-level-preserved : goal.loop-level-preserved
loop-level-preserved g c =
    let a = c.args in
    let image = g.H.Hash.image a.hash.now in
    let at = c.loop-level in
    let planned = as_planned image a.geometry.blocks a.number a.log.now a.block.now at.level c.known_place-block.result at.image c.with_cell-new.result at.invariant.0 c.known_place-block.ensures.0 c.with_cell-new.ensures in (
      risen_more image a.geometry.blocks a.number a.log.now a.block.now at.level c.with_cell-new.result c.image_of-image-in-loop-level.result planned c.image_of-image-in-loop-level.ensures,
      planned_more image a.geometry.blocks a.number a.log.now a.block.now at.level at.tree_blocks c.with_cell-new.result (omega (arith, at.invariant.2, c.known_place-block.ensures.2)) at.invariant.1 planned,
      length-set at.tree_blocks at.level c.with_cell-new.result ∙ at.invariant.2,
    )
