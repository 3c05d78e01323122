use Rattle.std.proofs.Common.{◌≡◌}
use Rattle.std.specs.Slice.Iter.{chunks_rest, chunks_size}
use Rattle.tree.proofs.Levels.{Made}
use Rattle.tree.proofs.layout.fill_level.Given as goal

abbrev pub invariant-loop-j : goal.invariant-loop-j
invariant-loop-j g l =
    (goal.iterator-loop-j g).can_next l.j-iterator
    × (goal.iterator-loop-j g).is_finite l.j-iterator
    × (chunks_size l.j-iterator.iter ≡ 16)
    × Made (g.H.Hash.image l.hash) l.below l.level (chunks_rest l.j-iterator.iter) l.j-iterator.count
