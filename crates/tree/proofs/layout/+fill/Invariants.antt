use Rattle.std.proofs.Common.{length}
use Rattle.tree.proofs.layout.+fill.Given as goal

abbrev pub decreases-fill : goal.decreases-fill
decreases-fill g l = length l.below.now
