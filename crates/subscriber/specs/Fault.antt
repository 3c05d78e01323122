-- What stops the reading of a sheet.
use Rattle.std.specs.Prelude.{ℕ}
use Rattle.sheet_error.specs.declared.cause.SheetError.{SheetError}
use Rattle.sheet_error.specs.declared.cause.SheetError.TheVariants as error
use Rattle.subscriber.specs.declared.fault.Fault.{Fault}
use Rattle.subscriber.specs.declared.fault.Fault.TheVariants as fault

-- a fault, of the line with this number
abbrev pub error_at : ℕ → Fault → SheetError
error_at line (fault.Refused c) = error.Bad line c
error_at line fault.NoMemory = error.NoMemory
