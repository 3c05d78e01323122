-- What the words of a line stand for.
use Rattle.std.specs.Prelude.{ℕ, ◌+◌, ◌*◌, Bool, true, cond, ◌&&◌, List, [], ◌∷◌, length, Some, None, Ok, Err, codes, Option, Result, ◌==◌, nat_le, nat_lt, slice_index, slice_index_or}
use Rattle.std.specs.Char.{digit_value}
use Rattle.std.specs.Str.{bytes_eq}
use Rattle.sheet_error.specs.declared.cause.Cause.{Cause}
use Rattle.sheet_error.specs.declared.cause.Cause.TheVariants as cause
use Rattle.sheet_error.specs.declared.cause.Keyword.{Keyword}
use Rattle.sheet_error.specs.declared.cause.Keyword.TheVariants as keyword
use Rattle.sheet_error.specs.declared.cause.Number.TheVariants as number
use Rattle.subscriber.specs.declared.tray.HashChoice.{HashChoice}
use Rattle.subscriber.specs.declared.tray.HashChoice.TheVariants.{Sha256, SipHash}
use Rattle.sim.specs.Identity.{digit_run, padded}
use Rattle.subscriber.specs.Number.{number_in}
use Rattle.subscriber.specs.Text.{words}

-- the word that a line begins with
abbrev pub keyword_of : List ℕ → Option Keyword
keyword_of w =
    cond (bytes_eq w (codes "tray")) (Some keyword.Tray)
    (cond (bytes_eq w (codes "hash")) (Some keyword.Hash)
    (cond (bytes_eq w (codes "blocks")) (Some keyword.Blocks)
    (cond (bytes_eq w (codes "sim")) (Some keyword.Sim) None)))

-- hexadecimal digits, of either case
abbrev pub all_hex : List ℕ → Bool
all_hex [] = true
all_hex (c ∷ cs) = nat_lt (digit_value c) 16 && all_hex cs

-- each two digits are a byte
abbrev pub hex_bytes : List ℕ → List ℕ
hex_bytes [] = []
hex_bytes (a ∷ []) = []
hex_bytes (a ∷ b ∷ cs) = (digit_value a * 16 + digit_value b) ∷ hex_bytes cs

-- a salt or a key: 16 bytes, written as 32 hexadecimal digits
unfoldable pub key_in : List ℕ → Result (List ℕ) Cause
key_in w = cond (length w == 32) (cond (all_hex w) (Ok (hex_bytes w)) (Err cause.KeyDigit)) (Err cause.KeyLength)

-- what was made, changed by f; a cause stays
abbrev pub with_ok : {A B E : Type 0} → (A → B) → Result A E → Result B E
with_ok f (Ok x) = Ok (f x)
with_ok f (Err e) = Err e

-- what was made, handed on to f; a cause stays
abbrev pub then_ok : {A B E : Type 0} → Result A E → (A → Result B E) → Result B E
then_ok (Ok x) f = f x
then_ok (Err e) f = Err e

-- an identity, as its 20 bytes
unfoldable pub identity_in : List ℕ → Result (List ℕ) Cause
identity_in w =
    cond (nat_le 6 (length w) && nat_le (length w) 20)
    (cond (digit_run w == length w) (Ok (padded w)) (Err cause.IdentityDigit))
    (Err cause.IdentityLength)

-- a SIM: its identity's 20 bytes, its key index and its sequence number
abbrev pub Entry : Type 0
Entry = List ℕ × ℕ × ℕ

-- what a line says
pub data Said : Type 0 where
  nothing : Said
  tray_is : ℕ → Said
  hash_is : HashChoice → Said
  blocks_are : ℕ → Said
  sim_is : Entry → Said

-- what stands where just n words are wanted after a keyword
abbrev pub counted : Keyword → ℕ → List (List ℕ) → Result Said Cause → Result Said Cause
counted k n ws r = cond (length ws == n) r (Err (cause.WordCount k))

-- a hash by its name, with its salt or its key
abbrev pub hash_in : List ℕ → List ℕ → Result HashChoice Cause
hash_in name key =
    cond (bytes_eq name (codes "sha256")) (with_ok Sha256 (key_in key))
    (cond (bytes_eq name (codes "siphash")) (with_ok SipHash (key_in key)) (Err cause.UnknownHash))

-- a SIM: the first of its three words that is wrong gives the cause
abbrev pub sim_in : List ℕ → List ℕ → List ℕ → Result Said Cause
sim_in i k q =
    then_ok (identity_in i) (λ digits.
    then_ok (number_in number.KeyIndex k) (λ key.
    with_ok (λ sequence. sim_is (digits, key, sequence)) (number_in number.Sequence q)))

-- what a line says by its keyword and the words after it
abbrev pub after : Option Keyword → List (List ℕ) → Result Said Cause
after None ws = Err cause.UnknownWord
after (Some keyword.Tray) ws = counted keyword.Tray 1 ws (with_ok tray_is (number_in number.Tray (slice_index_or ws 0 [])))
after (Some keyword.Hash) ws = counted keyword.Hash 2 ws (with_ok hash_is (hash_in (slice_index_or ws 0 []) (slice_index_or ws 1 [])))
after (Some keyword.Blocks) ws = counted keyword.Blocks 1 ws (with_ok blocks_are (number_in number.Blocks (slice_index_or ws 0 [])))
after (Some keyword.Sim) ws = counted keyword.Sim 3 ws (sim_in (slice_index_or ws 0 []) (slice_index_or ws 1 []) (slice_index_or ws 2 []))

-- a line without a word says nothing
abbrev pub said : List (List ℕ) → Result Said Cause
said [] = Ok nothing
said (w ∷ ws) = after (keyword_of w) ws

-- a line that begins with # says nothing
unfoldable pub line_says : List ℕ → Result Said Cause
line_says line = cond (slice_index line 0 == 35) (Ok nothing) (said (words line))
