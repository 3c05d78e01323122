use Rattle.std.proofs.Common.{rules, ◌∙◌, arith}
use Rattle.std.specs.Slice.Iter.{chunks_rest}
use Rattle.tree.proofs.Levels.{made_more}
use Rattle.tree.proofs.layout.fill_level.Goals as goal

pub loop-j-preserved : goal.loop-j-preserved
loop-j-preserved g c =
    let steps = c.in-Some.ensures.steps in
    let size = c.loop-j.invariant.2 in (
      search rules,
      tt,
      steps.0.0 ∙ size,
      rw (steps.1, steps.2)
          (made_more (g.H.Hash.image c.args.hash.now) c.args.below.now c.loop-j.level (chunks_rest c.loop-j.j-iterator.iter) c.in-Some.sixteen.now (chunks_rest c.next.new.self.iter) c.loop-j.j-iterator.count c.fill_block.new.block
          c.loop-j.invariant.3 steps.0.1.0 (omega (arith, size, steps.0.1.1)) steps.0.1.2 c.fill_block.ensures),
    )
