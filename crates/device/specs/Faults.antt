-- Why a device refuses, and how a fault climbs from the layer where it starts to the top of the pile.
use Rattle.std.specs.Prelude.{ℕ, ◌+◌, min, cond, nat_eq, Result, Ok, Err}
use Rattle.device.specs.declared.fault.Cause.{Cause}
use Rattle.device.specs.declared.fault.Cause.TheVariants.{PastEnd, PastWays, Medium}
use Rattle.device.specs.declared.fault.Fault.{Fault}

-- the number of each cause
abbrev pub cause_number : Cause → ℕ
cause_number PastEnd = 1
cause_number PastWays = 2
cause_number Medium = 3

-- the cause that has this number, 1 to 3
abbrev pub cause_of : ℕ → Cause
cause_of k =
    cond (nat_eq (cause_number PastEnd) k) PastEnd (cond (nat_eq (cause_number PastWays) k) PastWays Medium)

-- a number past the end, cause 1: its place is the number
abbrev pub past_end : ℕ → Fault
past_end n = record { cause = cause_of 1; place = n; climbed = 0 }

-- a way past the ways, cause 2: its place is the way
abbrev pub past_ways : ℕ → Fault
past_ways w = record { cause = cause_of 2; place = w; climbed = 0 }

-- a medium that refuses, cause 3: its place is the medium's own number of the block
abbrev pub refused : ℕ → Fault
refused n = record { cause = cause_of 3; place = n; climbed = 0 }

-- a fault has climbed one more where a layer passes it up, 255 at most
abbrev pub higher : Fault → Fault
higher f = record { cause = f.cause; place = f.place; climbed = min (f.climbed + 1) 255 }

-- what a layer answers where the device below answers so: an acceptance as it is, a fault one higher
abbrev pub passed_up : {A : Type 0} → Result A Fault → Result A Fault
passed_up (Ok a) = Ok a
passed_up (Err f) = Err (higher f)
