use Rattle.std.proofs.Common.{◌≤◌}
use Rattle.std.specs.Iterator.Adapters.{enumerate_count, enumerate_source}
use Rattle.std.specs.Str.Iter.{lines_rest}
use Rattle.vectors.proofs.Turns.{Sofar}
use Rattle.vectors.proofs.vector.tally.Given as goal

abbrev pub invariant-loop-i : goal.invariant-loop-i
invariant-loop-i l =
    (goal.iterator-loop-i).can_next l.i-iterator × (goal.iterator-loop-i).is_finite l.i-iterator
    × (l.tally.total ≤ enumerate_count l.i-iterator)
    × Sofar l.suite l.text (lines_rest (enumerate_source l.i-iterator)) (enumerate_count l.i-iterator) l.tally
