use Rattle.std.proofs.Common.{◌≡◌, ◌+◌, ◌-◌, take, drop, length, ap, ◌∙◌, rules}
use Rattle.std.specs.Simd.Lanes.{put_chunk, zip2}
use Rattle.digest.specs.Roots.{K}
use Rattle.digest.specs.Sha256.{plus}
use Rattle.digest.proofs.Sums.{four_sums, of_constants, written}
use borrow.Rule.Slice.PartMut.{mid_of, put_mid}
use Rattle.digest.proofs.rounds.put_sums.Goals as goal

pub returns : goal.returns
unfolding plus K
returns c =
    let old = c.args.sums.now in
    let t = c.args.t in
    let words = c.args.words in
    let long : length old ≡ 64 = search rules in
    ap (λ zs. put_mid t (t + 4 - t) old (put_chunk 0 (mid_of t (t + 4 - t) old) zs)) (of_constants t c.requires words)
    ∙ written old (zip2 plus (take 4 (drop t K)) words) t long c.requires (four_sums t c.requires words c.fits-words.0)
