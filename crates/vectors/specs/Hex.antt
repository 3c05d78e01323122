-- Bytes as hexadecimal text, two digits to a byte.
use Rattle.std.specs.Prelude.{ℕ, ◌+◌, ◌*◌, ◌/◌, ◌%◌, cond, List, [], ◌∷◌, length, Some, None, Option, ◌==◌, nat_lt, slice_index}
use Rattle.std.specs.Option.{option_map}
use Rattle.std.specs.Char.{digit_value}
use Rattle.std.specs.Simd.{first_chunks}

-- the digit that a character writes, if it writes one
abbrev pub hex_digit : ℕ → Option ℕ
hex_digit c = cond (nat_lt (digit_value c) 16) (Some (digit_value c)) None

-- the byte of a high and a low digit
abbrev pub hex_joined : Option ℕ → Option ℕ → Option ℕ
hex_joined None low = None
hex_joined (Some high) low = option_map (λ l. 16 * high + l) low

abbrev pub hex_byte : List ℕ → Option ℕ
hex_byte pair = hex_joined (hex_digit (slice_index pair 0)) (hex_digit (slice_index pair 1))

-- a byte before others
abbrev pub before : Option ℕ → Option (List ℕ) → Option (List ℕ)
before None rest = None
before (Some x) rest = option_map (λ xs. x ∷ xs) rest

-- the bytes of pairs of digits
abbrev pub hex_pairs : List (List ℕ) → Option (List ℕ)
hex_pairs [] = Some []
hex_pairs (pair ∷ pairs) = before (hex_byte pair) (hex_pairs pairs)

-- the bytes that a text writes, if it writes any
unfoldable pub unhex : List ℕ → Option (List ℕ)
unhex text = cond (length text % 2 == 0) (hex_pairs (first_chunks 2 (length text / 2) text)) None
