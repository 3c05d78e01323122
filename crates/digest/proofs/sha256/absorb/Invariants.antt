use Rattle.std.proofs.Common.{◌≡◌, take, fold}
use Rattle.digest.specs.Sha256.{hash_block}
use Rattle.digest.proofs.sha256.absorb.Given as goal

abbrev pub invariant-loop-block : goal.invariant-loop-block
invariant-loop-block l = l.h ≡ fold hash_block l.initial.h (take l.block-index l.blocks)
