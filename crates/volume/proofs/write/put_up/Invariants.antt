use Rattle.std.proofs.Common.{ℕ, List}
use Rattle.volume.specs.Refusals.{stuck_in}
use Rattle.volume.specs.Writes.{IsPlan, PutUp}
use Rattle.volume.proofs.write.put_up.Given as goal

abbrev pub invariant-loop-level : goal.invariant-loop-level
invariant-loop-level g l =
    (image : List ℕ → List ℕ) (log block : List ℕ) → IsPlan image l.geometry.blocks l.number log block l.plan.tree_blocks l.plan.root
    → PutUp g.T.Device image l.geometry.blocks l.number log block (stuck_in l.initial.failed) l.initial.tree l.level (stuck_in l.failed) l.tree
