use Rattle.std.proofs.Common.{◌∙◌, rules}
use Rattle.digest.proofs.Words.{word_of_eight}
use Rattle.digest.proofs.siphash.word_of.Goals as goal

pub returns : goal.returns
returns c = c.from_le_bytes.ensures ∙ word_of_eight _ (search rules)
