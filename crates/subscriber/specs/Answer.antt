-- What the reader has read and answers, in plain numbers.
use Rattle.std.specs.Prelude.{◌≡◌, ℕ, List, map, Ok, Err, vec_items, Result}
use Rattle.sheet_error.specs.declared.cause.Cause.{Cause}
use Rattle.sheet_error.specs.declared.cause.SheetError.{SheetError}
use Rattle.sheet_error.specs.declared.cause.SheetError.TheVariants as error
use Rattle.subscriber.specs.declared.fault.Fault.{Fault}
use Rattle.subscriber.specs.declared.fault.Fault.TheVariants as fault
use Rattle.subscriber.specs.declared.reading.Heading.{Heading}
use Rattle.subscriber.specs.declared.sheet.Sheet.{Sheet}
use Rattle.subscriber.specs.Items.{Entry}
use Rattle.subscriber.specs.Plain.{entry_of}
use Rattle.subscriber.specs.Sheet.{Draft, Whole}

-- all of the headers, with these SIMs
abbrev pub whole_with : List Entry → Heading → Whole
whole_with es h = record { tray = h.tray.value; hash = h.hash; blocks = h.blocks.value; sims = es }

-- the draft after a step is the one that is asked for, or the cause is; want of memory may come at any time
abbrev pub Stepped : Result Draft Cause → Result (Unit {0}) Fault → Draft → Type 0
Stepped m (Ok x) d = m ≡ Ok d
Stepped m (Err (fault.Refused c)) d = m ≡ Err c
Stepped m (Err fault.NoMemory) d = Unit {0}

-- a sheet, in plain numbers
abbrev pub plain_sheet : Sheet → Whole
plain_sheet s = record {
  tray = s.tray.value;
  hash = s.hash;
  blocks = s.blocks.value;
  sims = map entry_of (vec_items s.sims);
}

-- the answer is the sheet that is asked for, or the line and the cause are; want of memory may come at any time
abbrev pub Answers : Result Whole (ℕ × Cause) → Result Sheet SheetError → Type 0
Answers m (Ok s) = m ≡ Ok (plain_sheet s)
Answers m (Err (error.Bad line cause)) = m ≡ Err (line, cause)
Answers m (Err error.NoMemory) = Unit {0}
