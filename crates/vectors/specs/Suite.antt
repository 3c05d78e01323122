-- How the lines of each file write a message, and the hash that they publish.
use Rattle.std.specs.Prelude.{◌≡◌, ℕ, ◌<◌, List, [], ◌∷◌, Some, ◌⊎◌}
use Rattle.std.specs.List.{range_with_len}
use Rattle.std.specs.Str.Parse.{IsNumeral, without_leading_plus, digits_value}
use Rattle.digest.specs.Sha256.{sha256}
use Rattle.digest.specs.SipHash.{bytes, siphash_2_4}
use Rattle.vectors.specs.declared.suite.Suite.{Suite}
use Rattle.vectors.specs.declared.suite.Suite.TheVariants.{SipHash24, Sha256}
use Rattle.vectors.specs.Hex.{unhex}

-- a decimal number below 256 stands for the message 0, 1, 2 .. of that length
abbrev pub counts : List ℕ → List ℕ → Type 0
counts word message =
    let n = digits_value 10 (without_leading_plus word) in
    IsNumeral 10 (without_leading_plus word) × (n < 256) × (message ≡ range_with_len 0 n)

-- a message in hexadecimal, or `-` for the empty one
abbrev pub spells : List ℕ → List ℕ → Type 0
spells word message = ((word ≡ 45 ∷ []) × (message ≡ [])) ⊎ (unhex word ≡ Some message)

-- a word of a suite's file writes a message
abbrev pub Writes : Suite → List ℕ → List ℕ → Type 0
Writes SipHash24 word message = counts word message
Writes Sha256 word message = spells word message

-- the hash of a message as bytes; the key of SipHash is 0, 1 .. 15
abbrev pub hash_of : Suite → List ℕ → List ℕ
hash_of SipHash24 message = bytes 8 (siphash_2_4 (range_with_len 0 16) message)
hash_of Sha256 message = sha256 message
