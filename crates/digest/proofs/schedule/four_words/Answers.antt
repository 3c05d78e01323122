use Rattle.std.proofs.Common.{◌≡◌, ◌+◌, ◌*◌, length, rules, ◌∙◌}
use Rattle.digest.proofs.Lanes.{four_of, word_at}
use Rattle.digest.proofs.schedule.four_words.Goals as goal

pub returns : goal.returns
returns c =
    let block = c.args.block.now in
    let long : length block ≡ 64 = search rules in
    let word = word_at block c.as_chunks.result.0.now long c.as_chunks.ensures.front in
    rw (
      c.from_be_bytes.ensures ∙ word (4 * c.args.i),
      c.from_be_bytes-2.ensures ∙ word (4 * c.args.i + 1),
      c.from_be_bytes-3.ensures ∙ word (4 * c.args.i + 2),
      c.from_be_bytes-4.ensures ∙ word (4 * c.args.i + 3),
    )
    (four_of block c.args.i c.requires)
