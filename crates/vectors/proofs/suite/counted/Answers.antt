use Rattle.std.proofs.Common.{refl, ap, ◌∙◌}
use native.Mathlib.Nat.{sub-zero}
use Rattle.std.specs.List.{range_with_len}
use Rattle.std.proofs.lemmas.Iterator.{items_from_collect, YieldsList-from_range}
use Rattle.vectors.proofs.suite.counted.Goals as goal

pub returns : goal.returns
returns c =
    let length = c.in-Ok.length in
    let reads = c.in-Ok.ensures.value.0 in
    let items = items_from_collect c.collect.result c.collect.ensures.ran (YieldsList-from_range 0 length length refl (sub-zero _)) in
    (reads.0.0, reads.0.1, (rw c.in_ok-collect.was at items) ∙ ap (range_with_len 0) reads.1)
