-- The range of a number, put together, is the text that is wanted.
use Rattle.std.proofs.Common.{◌≡◌, ◌++◌, refl}
use Rattle.std.specs.Prelude.{codes, decimal}
use Rattle.std.specs.Fmt.{digits}
use Rattle.sheet_error.specs.declared.cause.Number.{Number}
use Rattle.sheet_error.specs.declared.cause.Number.TheVariants as number
use Rattle.sheet_error.specs.Range.{least, most}
use Rattle.sheet_error.specs.Wording.{number_text, out_of_range_text}

pub range_text
    : (n : Number)
    → number_text n ++ (codes " out of range (" ++ (decimal (least n) ++ (codes " to " ++ (decimal (most n) ++ codes ")")))) ≡ out_of_range_text n
unfolding digits
range_text number.Tray = refl
range_text number.Blocks = refl
range_text number.KeyIndex = refl
range_text number.Sequence = refl
