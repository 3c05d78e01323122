-- The numbers that a sheet may have.
use Rattle.std.specs.Prelude.{ℕ}
use Rattle.sheet_error.specs.declared.cause.Number.{Number}
use Rattle.sheet_error.specs.declared.cause.Number.TheVariants.{Tray, Blocks, KeyIndex, Sequence}

-- the least number of each kind
abbrev pub least : Number → ℕ
least Tray = 1
least Blocks = 1
least KeyIndex = 0
least Sequence = 0

-- the largest
abbrev pub most : Number → ℕ
most Tray = 4294967295
most Blocks = 4096
most KeyIndex = 65535
most Sequence = 281474976710655
