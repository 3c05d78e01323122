use Rattle.std.proofs.Common.{rules, ℕ, ◌-◌, vec_items, ◌∙◌, arith}
use Rattle.volume.specs.Extract.{blocks_at}
use Rattle.volume.proofs.Heights.{Below, below_it, cell_all, cell_more}
use Rattle.volume.proofs.extract.+true_block.Given.{Over}
use Rattle.volume.proofs.extract.+true_block.Goals as goal
use Rattle.volume.proofs.extract.+true_block.Goals.{After-len}

-- the height below this one
under : (g : Over) (t : ℕ) (c : After-len g t) → Below (g.H.Hash.image c.args.hash.now) (vec_items c.args.contents.now.blocks) c.args.height (c.args.height - 1) c.args.at c.len.result
under g t c =
    below_it (g.H.Hash.image c.args.hash.now) (vec_items c.args.contents.now.blocks) c.args.height (c.args.height - 1) c.args.at c.len.result (omega arith) (omega (arith, c.args.contents.now.least))
    (c.len.ensures ∙ c.args.contents.now.blocks.ok.0) c.requires.inside

pub overflow_mul-at : goal.overflow_mul-at
overflow_mul-at g t c = let u = under g t c in omega (arith, u.count, u.inside, u.few)

pub overflow_sub-count-2 : goal.overflow_sub-count-2
overflow_sub-count-2 g t c = let u = under g t c in omega (arith, u.count, u.inside)

pub true_block-requires : goal.true_block-requires
true_block-requires g t c κs within =
    let u = under g t (goal.at.true_block-requires g t c).After-len in (search rules, (within, (omega arith, omega (arith, u.count, c.min-i-end.ensures))))

pub loop-i-preserved : goal.loop-i-preserved
loop-i-preserved g t c =
    let u = under g t (goal.at.loop-i-preserved g t c).After-len in
    cell_more (g.H.Hash.image c.args.hash.now) (blocks_at (g.H.Hash.image c.args.hash.now) (vec_items c.args.contents.now.blocks) (c.args.height - 1)) c.loop-i.cells c.args.at c.loop-i.i
    c.true_block.result c.image_of.result (omega (arith, u.count, c.min-i-end.ensures)) c.loop-i.invariant c.true_block.ensures c.image_of.ensures

pub returns : goal.returns
returns g t c =
    let u = under g t (goal.at.returns g t c).After-len in
    c.copy_from_slice.ensures.after ∙ c.as_flattened.ensures.value
    ∙ cell_all (g.H.Hash.image c.args.hash.now) (blocks_at (g.H.Hash.image c.args.hash.now) (vec_items c.args.contents.now.blocks) (c.args.height - 1)) c.loop-i.cells c.args.at c.loop-i.i
    (blocks_at (g.H.Hash.image c.args.hash.now) (vec_items c.args.contents.now.blocks) c.args.height) u.inside (omega (arith, u.count, c.min-i-end.ensures)) u.packed c.loop-i.invariant
