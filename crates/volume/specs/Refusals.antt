-- The refusals: the number of each, and what it carries. Checks, calls and ledger speak of a refusal by these alone.
use Rattle.std.specs.Prelude.{ℕ, Option, None, Some, Result, Ok, Err}
use Rattle.device.specs.declared.fault.Fault.{Fault}
use Rattle.device.specs.Faults.{cause_number}
use Rattle.volume.specs.declared.refusal.Failed.{Failed}
use Rattle.volume.specs.declared.refusal.Refusal.{Refusal}
use Rattle.volume.specs.declared.refusal.Refusal.TheVariants.{Closed, Opened, SlipOut, WrongSlip, WrongParts, NeverFormatted, OtherKind, DataCount, OtherCount, TreeCount, BlockArea, RecordArea, PastLast, TreeBlock, DataBlock, Unwritten, NotClear}
use Rattle.volume.specs.declared.refusal.Side.{Side}
use Rattle.volume.specs.declared.refusal.Side.TheVariants.{Data, Tree}

-- the data device is 1, the tree device 2
abbrev pub side_number : Side → ℕ
side_number Data = 1
side_number Tree = 2

-- where a call got stuck: on which side, at which level (0 for a data block), at which block of that device, and the device's fault, or none where bytes did not match
pub record Stuck : Type 0 where
  pub side : ℕ
  pub level : ℕ
  pub block : ℕ
  pub fault : Option Fault

-- why a call is refused: the number, and where it got stuck, if a device is to blame
pub record Reason : Type 0 where
  pub number : ℕ
  pub stuck : Option Stuck

abbrev pub plain : ℕ → Reason
plain n = record { number = n; stuck = None }

abbrev pub blamed : ℕ → Stuck → Reason
blamed n stuck = record { number = n; stuck = Some stuck }

abbrev pub stuck_of : Failed → Stuck
stuck_of failed = record { side = side_number failed.side; level = failed.level; block = failed.block; fault = failed.fault }

-- the number of each refusal, and what it carries
abbrev pub reason : Refusal → Reason
reason Closed = plain 40
reason Opened = plain 41
reason SlipOut = plain 42
reason WrongSlip = plain 43
reason WrongParts = plain 25
reason NeverFormatted = plain 22
reason OtherKind = plain 24
reason DataCount = plain 20
reason OtherCount = plain 23
reason TreeCount = plain 21
reason BlockArea = plain 11
reason RecordArea = plain 12
reason PastLast = plain 10
reason (TreeBlock failed) = blamed 51 (stuck_of failed)
reason (DataBlock failed) = blamed 52 (stuck_of failed)
reason (Unwritten failed) = blamed 53 (stuck_of failed)
reason NotClear = plain 44

-- an answer of the code, told by the number of its refusal
abbrev pub told : {A : Type 0} → Result A Refusal → Result A Reason
told (Ok a) = Ok a
told (Err refusal) = Err (reason refusal)

-- an answer without what it gives
abbrev pub done : {A E : Type 0} → Result A E → Result Unit E
done (Ok a) = Ok tt
done (Err e) = Err e

-- a tree block of which no way passes: its level, its number on the tree device, and the last way's fault
abbrev pub tree_block : ℕ → ℕ → Option Fault → Reason
tree_block level block fault = blamed 51 (record { side = 2; level = level; block = block; fault = fault })

-- a data block of which no way passes
abbrev pub data_block : ℕ → Option Fault → Reason
data_block block fault = blamed 52 (record { side = 1; level = 0; block = block; fault = fault })

-- a refused write of a data block
abbrev pub data_unwritten : ℕ → Fault → Stuck
data_unwritten block fault = record { side = 1; level = 0; block = block; fault = Some fault }

-- a refused write of a tree block
abbrev pub tree_unwritten : ℕ → ℕ → Fault → Stuck
tree_unwritten level block fault = record { side = 2; level = level; block = block; fault = Some fault }

-- the numbers of a failure, as told to the caller
abbrev pub stuck_in : Option Failed → Option Stuck
stuck_in None = None
stuck_in (Some failed) = Some (stuck_of failed)

-- the cause, place and climbed of the device fault; all zero where the bytes did not match
abbrev pub fault_numbers : Option Fault → ℕ × ℕ × ℕ
fault_numbers None = (0, 0, 0)
fault_numbers (Some fault) = (cause_number fault.cause, fault.place, fault.climbed)
