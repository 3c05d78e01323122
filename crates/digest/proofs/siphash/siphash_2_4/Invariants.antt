use Rattle.std.proofs.Common.{◌≡◌, map, take, fold}
use Rattle.digest.specs.SipHash.{compress, initial, word}
use Rattle.digest.proofs.siphash.siphash_2_4.Given as goal

abbrev pub invariant-loop-chunk : goal.invariant-loop-chunk
invariant-loop-chunk l = l.state ≡ fold compress (initial l.key) (map word (take l.chunk-index l.chunks))
