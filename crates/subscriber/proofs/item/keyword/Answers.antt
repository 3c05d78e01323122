use Rattle.std.proofs.Common.{◌≡◌, codes, arith, rules}
use Rattle.std.proofs.lemmas.Slice.Eq.{text_from_reads}
use Rattle.subscriber.proofs.item.keyword.Goals as goal

pub returns-in-blocks : goal.returns-in-blocks
returns-in-blocks c =
    let same : c.args.word.now ≡ codes "blocks" = text_from_reads _ _ (omega arith) (search rules) in
    rw same
