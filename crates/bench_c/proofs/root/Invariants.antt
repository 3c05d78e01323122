use Rattle.std.proofs.Common.{◌≡◌}
use Rattle.tree.specs.Layout.{root_of}
use Rattle.bench_c.proofs.root.Given as goal

abbrev pub invariant-loop : goal.invariant-loop
invariant-loop g l = l.root ≡ root_of (g.H.Hash.image l.hash) l.contents.blocks.items
