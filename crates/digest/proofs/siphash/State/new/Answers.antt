use Rattle.std.proofs.Common.{◌≡◌, length, ◌∙◌, rules}
use Rattle.digest.specs.SipHash.{initial, k0, k1}
use Rattle.digest.proofs.Words.{halves}
use Rattle.digest.proofs.siphash.State.new.Goals as goal

pub returns : goal.returns
unfolding initial
returns c =
    let key = c.args.key.now in
    let long : length key ≡ 16 = search rules in
    let split = halves key c.as_chunks.result.0.now long c.as_chunks.ensures.front in
    let low : c.word_of-k0.result ≡ k0 key = c.word_of-k0.ensures ∙ split.0 in
    let high : c.word_of-k1.result ≡ k1 key = c.word_of-k1.ensures ∙ split.1 in
    simp (low, high)
