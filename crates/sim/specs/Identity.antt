-- The identity of a SIM, as text and as the 20 bytes that it has in a block.
use Rattle.std.specs.Prelude.{ℕ, ◌-◌, Bool, ◌&&◌, List, ◌++◌, length, take, drop, replicate, ◌==◌, nat_le}
use Rattle.std.specs.Char.{is_ascii_digit}
use Rattle.std.specs.List.{prefix_len, list_all}

-- how many ASCII digits stand at the front
abbrev pub digit_run : List ℕ → ℕ
digit_run bs = prefix_len is_ascii_digit bs

-- nothing but zero bytes
abbrev pub all_zero : List ℕ → Bool
all_zero bs = list_all (λ c. c == 0) bs

-- 20 bytes: at least six ASCII digits, and zeros after the last
unfoldable pub is_padded : List ℕ → Bool
is_padded bs = length bs == 20 && (nat_le 6 (digit_run bs) && all_zero (drop (digit_run bs) bs))

-- an identity as it is written: 6 to 20 bytes, and each a digit
unfoldable pub is_identity : List ℕ → Bool
is_identity text = (nat_le 6 (length text) && nat_le (length text) 20) && digit_run text == length text

-- a text with zeros after it, to 20 bytes in all
unfoldable pub padded : List ℕ → List ℕ
padded text = text ++ replicate (20 - length text) 0

-- the digits at the front alone
unfoldable pub unpadded : List ℕ → List ℕ
unpadded bs = take (digit_run bs) bs
