use Rattle.std.proofs.lemmas.List.{take_all}
use Rattle.std.proofs.lemmas.List.Sums.{fold_push}
use Rattle.digest.specs.SipHash.{compress, initial, siphash_2_4, whole_words, last_word}
use Rattle.digest.proofs.siphash.siphash_2_4.Goals as goal

pub returns : goal.returns
unfolding siphash_2_4 whole_words last_word
returns c =
    let all = take_all c.loop-chunk.chunk-index c.as_chunks.result.0.now c.loop-chunk-test.false in
    let end =
    fold_push compress (initial c.args.key.now) (whole_words c.args.message.now) (last_word c.args.message.now) in
    cc
