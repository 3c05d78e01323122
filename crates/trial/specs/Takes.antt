-- A slip that a volume takes.
use Rattle.std.specs.Prelude.{◌≡◌, true, Some}
use Rattle.volume.specs.declared.slip.Slip.{Slip}
use Rattle.volume.specs.Slips.{slip_number}
use Rattle.volume.specs.View.{Open, View}

-- the volume is open, and the slip is its own and out
pub record Takes (v : View) (s : Slip) : Type 0 where
  pub mind : Open
  pub present : v.present ≡ Some mind
  pub out : mind.slip_out ≡ true
  pub own : slip_number s ≡ v.number
