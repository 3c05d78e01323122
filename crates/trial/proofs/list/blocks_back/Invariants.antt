use Rattle.std.proofs.Common.{◌≡◌, take}
use Rattle.trial.specs.Lists.{AreasWhole, blocks_read}
use Rattle.trial.proofs.list.blocks_back.Given as goal

abbrev pub invariant-loop-entry : goal.invariant-loop-entry
invariant-loop-entry l = AreasWhole l.list → l.blocks.items ≡ blocks_read (take l.entry-index l.list)
