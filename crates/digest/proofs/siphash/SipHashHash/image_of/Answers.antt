use Rattle.digest.specs.SipHash.{sip_cell}
use Rattle.digest.proofs.Words.{eight_bytes}
use Rattle.digest.proofs.siphash.SipHashHash.image_of.Goals as goal

pub returns : goal.returns
unfolding sip_cell
returns c = let same = eight_bytes c.siphash_2_4.result in cc
