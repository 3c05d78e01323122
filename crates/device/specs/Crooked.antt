-- The layer for tests: the device below, but for listed blocks that behave badly.
use Rattle.std.specs.Prelude.{◌≡◌, ℕ, nat_eq, Bool, true, false, ◌&&◌, List, [], ◌∷◌, take, slice_index, slice_set, bit_xor, Option, Some, None, option_map, Result, Ok, Err}
use Rattle.std.specs.Borrow.{Bor}
use Rattle.std.specs.List.{find}
use Rattle.device.specs.declared.crooked.Crooked.{Crooked}
use Rattle.device.specs.declared.crooked.Listed.{Listed}
use Rattle.device.specs.declared.crooked.Manner.{Manner}
use Rattle.device.specs.declared.crooked.Manner.TheVariants.{Refuses, Flips, Keeps}
use Rattle.device.specs.declared.device.Device
use Rattle.device.specs.declared.fault.Fault.{Fault}
use Rattle.device.specs.declared.source.Source
use Rattle.device.specs.Checks.{GuardedRead, GuardedWrite}
use Rattle.device.specs.Faults.{passed_up, refused}
use Rattle.device.specs.Meaning.{Cell, Meaning, loose}
use Rattle.device.specs.Passed.{PassedSettle, PassedWrite}

-- the manner of a block: that of the first entry for it, of the first sixteen entries
abbrev pub manner_of : List Listed → ℕ → Option Manner
manner_of listed n = option_map (λ entry. entry.manner) (find (λ entry. nat_eq entry.block n) (take 16 listed))

-- a listed block answers as it likes, in all ways; any other is as it is below
abbrev pub crooked_cell : Option Manner → Cell → Cell
crooked_cell (Some manner) cell = loose
crooked_cell None cell = cell

abbrev pub none_listed : List Listed → Bool
none_listed [] = true
none_listed (entry ∷ rest) = false

-- the counts and clear are those below; it is sound where nothing is listed and it is sound below
abbrev pub crooked_over : List Listed → Meaning → Meaning
crooked_over listed below =
    record {
      blocks = below.blocks;
      ways = below.ways;
      cell = λ way n. crooked_cell (manner_of listed n) (below.cell way n);
      sound = none_listed listed && below.sound;
      clear = below.clear;
    }

-- a block with the lowest bit of its first byte flipped
abbrev pub flipped : List ℕ → List ℕ
flipped bytes = slice_set bytes 0 (bit_xor (slice_index bytes 0) 1)

-- what is made of an answer from below
abbrev pub turned : Option Manner → Result (List ℕ) Fault → Result (List ℕ) Fault
turned (Some Flips) (Ok bytes) = Ok (flipped bytes)
turned (Some Flips) (Err fault) = Err fault
turned (Some Refuses) answer = answer
turned (Some Keeps) answer = answer
turned None answer = answer

-- the device below with these blocks listed
abbrev pub crooked_by : {D : Type 0} → Bor (List Listed) → D → Crooked D
crooked_by listed below = record { listed = listed; below = below }

module _ {D : Type 0} (g : Source.Ghosts D) where
  abbrev pub crooked_meaning : Crooked D → Meaning
  crooked_meaning s = crooked_over s.listed.now (g.meaning s.below)

  -- a read below, whose answer is passed up and turned
  pub record ReadBelow (s : Crooked D) (way n : ℕ) (answer : Result (List ℕ) Fault) (t : Crooked D) : Type 0 where
    pub answer_below : Result (List ℕ) Fault
    pub below' : D
    pub step : g.reads s.below way n answer_below below'
    pub answered : answer ≡ turned (manner_of s.listed.now n) (passed_up answer_below)
    pub after : t ≡ record s { below = below' }

  -- a refusal, or a read below
  pub record CrookedRead (s : Crooked D) (way n : ℕ) (answer : Result (List ℕ) Fault) (t : Crooked D) : Type 0 where
    pub refuses : manner_of s.listed.now n ≡ Some Refuses → (answer ≡ Err (refused n)) × (t ≡ s)
    pub passes : (manner_of s.listed.now n ≡ Some Refuses → ⊥) → ReadBelow s way n answer t

  abbrev pub crooked_reads : Crooked D → ℕ → ℕ → Result (List ℕ) Fault → Crooked D → Type 0
  crooked_reads s way n answer t = GuardedRead (crooked_meaning s) s way n answer t (CrookedRead s way n answer t)

  module _ (d : Device.Ghosts D) where
    -- a refusal, an acceptance that changes nothing, or a write below
    pub record CrookedWrite (s : Crooked D) (n : ℕ) (block : List ℕ) (answer : Result Unit Fault) (t : Crooked D) : Type 0 where
      pub refuses : manner_of s.listed.now n ≡ Some Refuses → (answer ≡ Err (refused n)) × (t ≡ s)
      pub keeps : manner_of s.listed.now n ≡ Some Keeps → (answer ≡ Ok tt) × (t ≡ s)
      pub passes : (manner_of s.listed.now n ≡ Some Refuses → ⊥) → (manner_of s.listed.now n ≡ Some Keeps → ⊥) → PassedWrite d.writes s.below n block answer (λ below. record s { below = below }) t

    abbrev pub crooked_writes : Crooked D → ℕ → List ℕ → Result Unit Fault → Crooked D → Type 0
    crooked_writes s n block answer t = GuardedWrite (crooked_meaning s) s n answer t (CrookedWrite s n block answer t)

    abbrev pub crooked_settles : Crooked D → Bool → Crooked D → Type 0
    crooked_settles s answer t = PassedSettle d.settles s.below answer (λ below. record s { below = below }) t
