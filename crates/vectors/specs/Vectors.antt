-- The lines of a file of vectors, and what is to be said of one.
use Rattle.std.specs.Prelude.{◌≡◌, ℕ, ◌+◌, ◌<◌, Bool, cond, List, [], ◌∷◌, ◌++◌, length, is_some, Some, None, MatchBool, Option, ◌==◌, ◌≢◌, slice_index}
use Rattle.std.specs.Str.Lines.{IsFirstLine}
use Rattle.vectors.specs.declared.suite.Suite.{Suite}
use Rattle.vectors.specs.declared.tally.Fault.{Fault}
use Rattle.vectors.specs.declared.tally.Problem.{Problem}
use Rattle.vectors.specs.declared.tally.Problem.TheVariants.{Disagrees, Unreadable}
use Rattle.vectors.specs.declared.tally.Tally.{Tally}
use Rattle.vectors.specs.First.{first_fault}
use Rattle.vectors.specs.Hex.{unhex}
use Rattle.vectors.specs.Suite.{Writes, hash_of}

-- a line is a word that writes the message, a space, and the bytes of a hash in hexadecimal
pub record Says (suite : Suite) (line message hash : List ℕ) : Type 0 where
  pub word : List ℕ
  pub hex : List ℕ
  pub cut : line ≡ word ++ 32 ∷ hex
  pub first : (i : ℕ) → i < length word → slice_index word i ≢ 32
  pub means : Writes suite word message
  pub writes : unhex hex ≡ Some hash

-- no problem with a line whose hash is that of its message
abbrev pub Judged : Suite → List ℕ → Option Problem → Type 0
Judged suite line None = (message : List ℕ) × (hash : List ℕ) × Says suite line message hash × (hash ≡ hash_of suite message)
Judged suite line (Some Disagrees) = (message : List ℕ) × (hash : List ℕ) × Says suite line message hash × (hash ≢ hash_of suite message)
Judged suite line (Some Unreadable) = (message hash : List ℕ) → Says suite line message hash → ⊥

-- the lines of a text, first to last
abbrev pub LinesOf : List ℕ → List (List ℕ) → Type 0
LinesOf text [] = length text ≡ 0
LinesOf text (line ∷ lines) = (0 < length text) × ((rest : List ℕ) × IsFirstLine text line rest × LinesOf rest lines)

-- a line that begins with `#` is a comment
abbrev pub comment : List ℕ → Bool
comment line = slice_index line 0 == 35

-- t is what the lines from number k on make of a tally of these parts
abbrev pub Counts : Suite → List (List ℕ) → ℕ → ℕ → ℕ → Option Fault → Tally → Type 0
Counts suite [] k total agree fault t = (t.total ≡ total) × (t.agree ≡ agree) × (t.fault ≡ fault)
Counts suite (line ∷ lines) k total agree fault t =
    MatchBool (comment line)
    (Counts suite lines (k + 1) total agree fault t)
    ((p : Option Problem) × Judged suite line p × Counts suite lines (k + 1) (total + 1) (agree + cond (is_some p) 0 1) (first_fault fault k p) t)

-- t is the tally of a whole text
abbrev pub Tallies : Suite → List ℕ → Tally → Type 0
Tallies suite text t = (lines : List (List ℕ)) × LinesOf text lines × Counts suite lines 1 0 0 None t
