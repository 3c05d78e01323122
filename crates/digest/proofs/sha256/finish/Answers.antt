use Rattle.std.proofs.Common.{fold, ap, ◌∙◌}
use Rattle.digest.specs.Sha256.{cut, digest, hash_block}
use Rattle.digest.proofs.sha256.finish.Goals as goal

pub returns : goal.returns
unfolding cut
returns c =
    c.digest.ensures
    ∙ ap digest (c.absorb.ensures ∙ ap (fold hash_block c.args.h) (c.as_chunks.ensures.front ∙ ap cut c.pad-last.ensures))
