use Rattle.std.proofs.Common.{[], ◌++◌, replicate, refl, ap, ◌∙◌}
use Rattle.sim.specs.Block.{sim_block}
use Rattle.sim.proofs.Bytes.{put_after}
use Rattle.sim.proofs.block.encode.Goals as goal

pub returns : goal.returns
unfolding sim_block
returns c =
    put_after [] c.copy_from_slice.new.self 0 32 480 refl c.copy_from_slice.ensures.len ∙ ap (λ front. front ++ replicate 480 0) (c.copy_from_slice.ensures.after ∙ c.head.ensures)
