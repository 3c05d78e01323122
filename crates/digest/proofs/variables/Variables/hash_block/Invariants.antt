use Rattle.std.proofs.Common.{◌*◌}
use Rattle.digest.specs.Halfway.{Halfway}
use Rattle.digest.proofs.variables.Variables.hash_block.Given as goal

abbrev pub invariant-loop-i : goal.invariant-loop-i
invariant-loop-i l = Halfway l.self l.block l.sums (8 * l.i) l.v l.window
