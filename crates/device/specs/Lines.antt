-- The lines of a cache: what each holds, and which one a block that is written goes to.
use Rattle.std.specs.Prelude.{◌≡◌, ℕ, ◌+◌, ◌<◌, ◌≤◌, ◌⊎◌, min, cond, nat_eq, nat_lt, ◌&&◌, Bool, true, false, List, [], ◌∷◌, get_or, set, length, Option, Some, None}
use Rattle.device.specs.declared.lines.Line.{Line}
use Rattle.device.specs.declared.lines.Slot.{Slot}
use Rattle.device.specs.declared.lines.Slot.TheVariants.{Held, Empty, Least}

-- line i, or none where it is empty or there is no such line
abbrev pub line : List (Option Line) → ℕ → Option Line
line lines i = get_or lines i None

-- no two lines hold the same block
abbrev pub AreDistinct : List (Option Line) → Type 0
AreDistinct lines = (i j : ℕ) (a b : Line) → line lines i ≡ Some a → line lines j ≡ Some b → a.number ≡ b.number → i ≡ j

-- each line that holds a block holds 512 bytes
abbrev pub AreWhole : List (Option Line) → Type 0
AreWhole lines = (i : ℕ) (a : Line) → line lines i ≡ Some a → length a.bytes ≡ 512

-- the bytes held for block n
abbrev pub held : List (Option Line) → ℕ → Option (List ℕ)
held [] n = None
held (None ∷ lines) n = held lines n
held (Some a ∷ lines) n = cond (nat_eq a.number n) (Some a.bytes) (held lines n)

-- no line holds a block
abbrev pub none_held : List (Option Line) → Bool
none_held [] = true
none_held (None ∷ lines) = none_held lines
none_held (Some a ∷ lines) = false

-- each number that is held lies below the count
abbrev pub held_below : ℕ → List (Option Line) → Bool
held_below blocks [] = true
held_below blocks (None ∷ lines) = held_below blocks lines
held_below blocks (Some a ∷ lines) = nat_lt a.number blocks && held_below blocks lines

-- line i holds block n, and it is this
pub record IsLineOf (lines : List (Option Line)) (n i : ℕ) (a : Line) : Type 0 where
  pub there : line lines i ≡ Some a
  pub number : a.number ≡ n

-- no line holds block n
abbrev pub NoLineOf : List (Option Line) → ℕ → Type 0
NoLineOf lines n = (i : ℕ) (a : Line) → line lines i ≡ Some a → a.number ≡ n → ⊥

-- each of the first k lines holds a block
abbrev pub FirstHold : List (Option Line) → ℕ → Type 0
FirstHold lines k = (j : ℕ) → j < k → line lines j ≡ None → ⊥

-- line i is the lowest empty one
pub record IsLowestEmpty (lines : List (Option Line)) (i : ℕ) : Type 0 where
  pub inside : i < length lines
  pub empty : line lines i ≡ None
  pub lowest : FirstHold lines i

-- of two lines, by how often each was written and by its number, the first goes no later than the second: it was written less often, or as
-- often and its number is no higher
abbrev pub NotAfter : ℕ → ℕ → ℕ → ℕ → Type 0
NotAfter count number count' number' = (count < count') ⊎ ((count ≡ count') × (number ≤ number'))

-- line i holds a, which of all lines is written least, and of equals has the lowest number
pub record IsLeastUsed (lines : List (Option Line)) (i : ℕ) (a : Line) : Type 0 where
  pub there : line lines i ≡ Some a
  pub least : (j : ℕ) (b : Line) → line lines j ≡ Some b → NotAfter a.count a.number b.count b.number

-- a line that is filled has been written once
abbrev pub filled : ℕ → List ℕ → Line
filled n block = record { number = n; count = 1; bytes = block }

-- and once more with each write that replaces its bytes, 255 at most
abbrev pub rewritten : Line → List ℕ → Line
rewritten a block = record { number = a.number; count = min (a.count + 1) 255; bytes = block }

-- where block n goes when it is written: to the line that holds it; else to the lowest empty line; else to the line that is written least
abbrev pub IsSlotFor : List (Option Line) → ℕ → Slot → Type 0
IsSlotFor lines n (Held i) = (a : Line) × IsLineOf lines n i a
IsSlotFor lines n (Empty i) = NoLineOf lines n × IsLowestEmpty lines i
IsSlotFor lines n (Least i) = NoLineOf lines n × FirstHold lines (length lines) × ((a : Line) × IsLeastUsed lines i a)

-- what becomes of the lines where block n goes to this slot: a line that holds it is rewritten, any other filled
abbrev pub Goes : List (Option Line) → ℕ → List ℕ → Slot → List (Option Line) → Type 0
Goes lines n block (Held i) lines' = (a : Line) → line lines i ≡ Some a → lines' ≡ set lines i (Some (rewritten a block))
Goes lines n block (Empty i) lines' = lines' ≡ set lines i (Some (filled n block))
Goes lines n block (Least i) lines' = lines' ≡ set lines i (Some (filled n block))
