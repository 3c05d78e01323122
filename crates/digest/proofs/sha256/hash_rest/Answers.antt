use Rattle.std.proofs.lemmas.List.Sums.{fold-append}
use Rattle.digest.specs.Sha256.{hash_block, padding}
use Rattle.digest.proofs.Padding.{cut_apart}
use Rattle.digest.proofs.sha256.hash_rest.Goals as goal

pub returns : goal.returns
returns c =
    rw (
      cut_apart c.args.rest.now (padding c.args.len),
      fold-append hash_block c.args.h _ _,
      ← c.as_chunks.ensures.front,
      ← c.as_chunks.ensures.back,
      ← c.absorb.ensures,
    )
    c.finish.ensures
