-- Decimal numbers as parse reads them.
use Rattle.std.proofs.Common.{◌≡◌, ℕ, ◌<◌, true, List, [], ◌∷◌, length, rules, arith}
use Rattle.std.proofs.lemmas.Bool.{and_parts, ltb-true}
use Rattle.std.proofs.lemmas.Bool.Decides.{nat_tests}
use Rattle.std.proofs.lemmas.Str.Ascii.{IsAscii-nil, IsAscii-cons}
use Rattle.std.proofs.lemmas.Str.Parse.{IsNumeralModel, numerals_by_fold}
use Rattle.std.specs.Char.{is_ascii_digit}
use Rattle.std.specs.List.{list_all}
use Rattle.std.specs.Str.{IsAscii}
use Rattle.subscriber.specs.Number.{digits_after, is_decimal}

-- digits_after reads the digits of parse
pub numerals : IsNumeralModel (λ ds. list_all is_ascii_digit ds ≡ true) (digits_after 0)
numerals = numerals_by_fold _ (search rules) digits_after (search rules)

digit_ascii : (c : ℕ) → is_ascii_digit c ≡ true → c < 128
digit_ascii c e = grind (arith, nat_tests)

pub digits_ascii : (ds : List ℕ) → list_all is_ascii_digit ds ≡ true → IsAscii ds
digits_ascii [] e = IsAscii-nil
digits_ascii (c ∷ cs) e =
    let parts = and_parts (is_ascii_digit c) (list_all is_ascii_digit cs) e in
    IsAscii-cons c cs (digit_ascii c parts.0) (digits_ascii cs parts.1)

pub decimal_parts : (w : List ℕ) → is_decimal w ≡ true → (0 < length w) × (list_all is_ascii_digit w ≡ true)
unfolding is_decimal
decimal_parts w e =
    let parts = and_parts _ (list_all is_ascii_digit w) e in
    (ltb-true 0 (length w) parts.0, parts.1)
