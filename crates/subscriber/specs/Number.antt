-- The numbers of a sheet.
use Rattle.std.specs.Prelude.{ℕ, ◌+◌, ◌-◌, ◌*◌, Bool, cond, ◌&&◌, List, [], ◌∷◌, length, Ok, Err, Result, nat_le, nat_lt}
use Rattle.std.specs.Char.{is_ascii_digit}
use Rattle.std.specs.List.{list_all}
use Rattle.sheet_error.specs.declared.cause.Cause.{Cause}
use Rattle.sheet_error.specs.declared.cause.Cause.TheVariants.{NotANumber, OutOfRange}
use Rattle.sheet_error.specs.declared.cause.Number.{Number}
use Rattle.sheet_error.specs.Range.{least, most}

-- the number that n and then these digits write
abbrev pub digits_after : ℕ → List ℕ → ℕ
digits_after n [] = n
digits_after n (c ∷ cs) = digits_after (n * 10 + (c - 48)) cs

-- one decimal digit or more, and nothing else
unfoldable pub is_decimal : List ℕ → Bool
is_decimal word = nat_lt 0 (length word) && list_all is_ascii_digit word

-- a word as a number of this kind
unfoldable pub number_in : Number → List ℕ → Result ℕ Cause
number_in what word =
    cond (is_decimal word)
    (cond (nat_le (least what) (digits_after 0 word) && nat_le (digits_after 0 word) (most what)) (Ok (digits_after 0 word)) (Err (OutOfRange what)))
    (Err (NotANumber what))
