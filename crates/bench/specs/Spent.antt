-- The slips of a script, and the two volumes that have them out: the box's, and the one beside it.
use Rattle.std.specs.Prelude.{◌≡◌, ℕ, ◌+◌, ◌≤◌, Option, List}
use Rattle.volume.specs.declared.slip.Slip.{Slip}
use Rattle.volume.specs.Replay.{out_of}
use Rattle.volume.specs.Slips.{one_of, slips_of}
use Rattle.volume.specs.View.{View}

-- there are as many slips of each number as the two volumes have out
abbrev pub Balanced : View → View → List (Option Slip) → Type 0
Balanced v w places = (number : ℕ) → slips_of number places ≡ out_of number v + out_of number w

-- the slip of a place, if there is one, is out of one of the two volumes
abbrev pub Owed : View → View → Option Slip → Type 0
Owed v w held = (number : ℕ) → one_of number held ≤ out_of number v + out_of number w

-- of the two volumes, one has taken it, and nothing else is out or no longer out
abbrev pub Spent : View → View → Option Slip → View → View → Type 0
Spent v w held v' w' = (number : ℕ) → one_of number held + (out_of number v' + out_of number w') ≡ out_of number v + out_of number w

-- no slip is out any more
abbrev pub NoneOut : View → View → Type 0
NoneOut v w = (number : ℕ) → out_of number v + out_of number w ≡ 0
