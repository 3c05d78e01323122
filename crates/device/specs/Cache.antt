-- The layer that holds up to eight written blocks back.
use Rattle.std.specs.Prelude.{◌≡◌, ℕ, zero, suc, cond, ◌&&◌, Bool, List, length, set, Option, Some, None, MatchOption, Result, Ok, is_ok}
use Rattle.device.specs.declared.cache.Cache.{Cache}
use Rattle.device.specs.declared.device.Device
use Rattle.device.specs.declared.fault.Fault.{Fault}
use Rattle.device.specs.declared.lines.Line.{Line}
use Rattle.device.specs.declared.lines.Slot.{Slot}
use Rattle.device.specs.declared.lines.Slot.TheVariants.{Held, Empty, Least}
use Rattle.device.specs.declared.source.Source
use Rattle.device.specs.Checks.{GuardedRead, GuardedWrite}
use Rattle.device.specs.Lines.{Goes, IsSlotFor, held, held_below, line, none_held}
use Rattle.device.specs.Meaning.{Cell, Meaning, loose, sure}
use Rattle.device.specs.Passed.{PassedRead}

-- a cell loose below is loose; any other holds what a line holds for its number, else the bytes below
abbrev pub cell_over : Option (List ℕ) → Cell → Cell
cell_over (Some bytes) (sure below) = sure bytes
cell_over None (sure below) = sure below
cell_over bytes loose = loose

-- blocks and ways are those below; clear when no line is held and it is clear below; sound when it is sound below and every held number
-- lies below the count
abbrev pub cache_over : List (Option Line) → Meaning → Meaning
cache_over lines below =
    record {
      blocks = below.blocks;
      ways = below.ways;
      cell = λ way n. cell_over (held lines n) (below.cell way n);
      sound = below.sound && held_below below.blocks lines;
      clear = none_held lines && below.clear;
    }

abbrev pub cache_lines : {D : Type 0} → Cache D → List (Option Line)
cache_lines s = s.lines.lines

abbrev pub cache_below : {D : Type 0} → Cache D → D
cache_below s = s.below

module _ {D : Type 0} (g : Source.Ghosts D) where
  abbrev pub cache_meaning : Cache D → Meaning
  cache_meaning s = cache_over (cache_lines s) (g.meaning (cache_below s))

  -- a held block is read from its line, any other below
  pub record CacheRead (s : Cache D) (way n : ℕ) (answer : Result (List ℕ) Fault) (t : Cache D) : Type 0 where
    pub from_line : (bytes : List ℕ) → held s.lines.lines n ≡ Some bytes → (answer ≡ Ok bytes) × (t ≡ s)
    pub from_below : held s.lines.lines n ≡ None → PassedRead g.reads s.below way n answer (λ below. record s { below = below }) t

  abbrev pub cache_reads : Cache D → ℕ → ℕ → Result (List ℕ) Fault → Cache D → Type 0
  cache_reads s way n answer t = GuardedRead (cache_meaning s) s way n answer t (CacheRead s way n answer t)

  abbrev pub cache_source : Source.Ghosts (Cache D)
  cache_source = record { meaning = cache_meaning; reads = cache_reads }

  module _ (d : Device.Ghosts D) where
    -- what becomes of the lines and of what is below where block n goes to a line: the line that is
    -- written least is written below first and makes room, accepted there or not
    abbrev pub Taken : Cache D → ℕ → List ℕ → Cache D → Slot → Type 0
    Taken s n block t (Held i) = Goes s.lines.lines n block (Held i) t.lines.lines × (t.below ≡ s.below)
    Taken s n block t (Empty i) = Goes s.lines.lines n block (Empty i) t.lines.lines × (t.below ≡ s.below)
    Taken s n block t (Least i) =
        Goes s.lines.lines n block (Least i) t.lines.lines
        × ((a : Line) → line s.lines.lines i ≡ Some a → (answer : Result Unit Fault) × d.writes s.below a.number a.bytes answer t.below)

    -- a block that is written goes to the line that is for it
    pub record CacheWrite (s : Cache D) (n : ℕ) (block : List ℕ) (t : Cache D) : Type 0 where
      pub slot : Slot
      pub is_for : IsSlotFor s.lines.lines n slot
      pub taken : Taken s n block t slot

    -- every number below the count is accepted
    abbrev pub cache_writes : Cache D → ℕ → List ℕ → Result Unit Fault → Cache D → Type 0
    cache_writes s n block answer t = GuardedWrite (cache_meaning s) s n answer t ((answer ≡ Ok tt) × CacheWrite s n block t)

    -- a line is written below, and emptied if it is accepted there
    pub record PutDown (lines : List (Option Line)) (below : D) (k : ℕ) (a : Line) (lines' : List (Option Line)) (below' : D) : Type 0 where
      pub answer_below : Result Unit Fault
      pub step : d.writes below a.number a.bytes answer_below below'
      pub left : lines' ≡ cond (is_ok answer_below) (set lines k None) lines

    -- line k is put back, if it holds a block
    abbrev pub LineBack : List (Option Line) → D → ℕ → List (Option Line) → D → Type 0
    LineBack lines below k lines' below' =
        MatchOption (line lines k) ((lines' ≡ lines) × (below' ≡ below)) (λ a. PutDown lines below k a lines' below')

    -- the first k lines are put back, from line 0 up
    pub data PutBack (lines : List (Option Line)) (below : D) : ℕ → List (Option Line) → D → Type 0 where
      start : PutBack lines below zero lines below
      then : {k : ℕ} {lines' lines'' : List (Option Line)} {below' below'' : D} → PutBack lines below k lines' below' → LineBack lines' below' k lines'' below'' →
          PutBack lines below (suc k) lines'' below''

    -- all lines are put back, and then it is settled below
    pub record CacheSettle (s : Cache D) (answer : Bool) (t : Cache D) : Type 0 where
      pub before : D
      pub put_back : PutBack s.lines.lines s.below (length s.lines.lines) t.lines.lines before
      pub clear_below : Bool
      pub step : d.settles before clear_below t.below
      pub answered : answer ≡ none_held t.lines.lines && clear_below

    abbrev pub cache_device : Device.Ghosts (Cache D)
    cache_device = record { writes = cache_writes; settles = CacheSettle }
