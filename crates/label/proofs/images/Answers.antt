use Rattle.std.proofs.Common.{rules}
use Rattle.label.proofs.images.Goals as goal
use Rattle.label.proofs.images.Goals.{in-Sha256+in_ok-images-in-Sha256, in-SipHash+in_ok-images-in-SipHash}

pub returns : goal.returns
returns c = (
  c.in_ok-sheet.sheet,
  c.in_ok-sheet.ensures.answer,
  elim c.match-sheet.branch [
    | in-Sha256+in_ok-images-in-Sha256 w ↦ record { report = search rules; volume = search rules; tree = search rules }
    | in-SipHash+in_ok-images-in-SipHash w ↦ record { report = search rules; volume = search rules; tree = search rules }
  ],
)
