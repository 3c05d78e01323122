-- The number on a slip, and slips in places.
use Rattle.std.specs.Prelude.{ℕ, ◌+◌, cond, nat_eq, Option, None, Some, Result, Ok, Err, List, [], ◌∷◌, slice_index_or}
use Rattle.volume.specs.declared.slip.Slip.{Slip}
use Rattle.volume.specs.declared.slip.Unspent.{Unspent}
use Rattle.volume.specs.Refusals.{Reason, reason}

-- the number of the volume that gave the slip out
abbrev pub slip_number : Slip → ℕ
slip_number s = s.number

-- the slip with a number
abbrev pub slip_with : ℕ → Slip
slip_with number = record { number = number; bond = record {} }

-- what keep and leave answer, without the slip that they hand back
abbrev pub unspent : Result Unit Unspent → Result Unit Reason
unspent (Ok spent) = Ok tt
unspent (Err back) = Err (reason back.refusal)

-- the slip at a place of a pool; none where the place is empty, and where there is no such place
abbrev pub slip_at : List (Option Slip) → ℕ → Option Slip
slip_at places n = slice_index_or places n None

-- 1 where a place holds a slip of this number, and 0 where not
abbrev pub one_of : ℕ → Option Slip → ℕ
one_of number None = 0
one_of number (Some s) = cond (nat_eq s.number number) 1 0

-- how many slips of a number lie in a pool
abbrev pub slips_of : ℕ → List (Option Slip) → ℕ
slips_of number [] = 0
slips_of number (place ∷ places) = one_of number place + slips_of number places
