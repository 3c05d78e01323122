-- The layer that holds two devices as one.
use Rattle.std.specs.Prelude.{◌≡◌, ℕ, ◌+◌, ◌-◌, ◌<◌, ◌≤◌, min, Bool, cond, nat_lt, ◌&&◌, List, Result, Ok, Err}
use Rattle.device.specs.declared.device.Device
use Rattle.device.specs.declared.fault.Fault.{Fault}
use Rattle.device.specs.declared.mirror.Mirror.{Mirror}
use Rattle.device.specs.declared.source.Source
use Rattle.device.specs.Checks.{GuardedRead, GuardedWrite}
use Rattle.device.specs.Faults.{higher}
use Rattle.device.specs.Meaning.{Cell, Meaning}
use Rattle.device.specs.Passed.{PassedRead}

-- of two numbers of blocks the smaller; none where the ways together are more than a source may have
abbrev pub mirror_blocks : Meaning → Meaning → ℕ
mirror_blocks first second = cond (nat_lt 8 (first.ways + second.ways)) 0 (min first.blocks second.blocks)

-- a way that the first has is its own; any other is the second's, counted on from there
abbrev pub mirror_cell : Meaning → Meaning → ℕ → ℕ → Cell
mirror_cell first second way n = cond (nat_lt way first.ways) (first.cell way n) (second.cell (way - first.ways) n)

-- the first's ways and then the second's; sound and clear where both are
abbrev pub mirror_over : Meaning → Meaning → Meaning
mirror_over first second =
    record {
      blocks = mirror_blocks first second;
      ways = min (first.ways + second.ways) 8;
      cell = mirror_cell first second;
      sound = first.sound && second.sound;
      clear = first.clear && second.clear;
    }

-- what a write answers where the two answer so: refused only where both refuse, and then with the first's fault
abbrev pub taken_by_one : Result Unit Fault → Result Unit Fault → Result Unit Fault
taken_by_one (Ok done) second = Ok tt
taken_by_one (Err fault) (Ok done) = Ok tt
taken_by_one (Err fault) (Err other) = Err (higher fault)

-- the two as one
abbrev pub mirror_of : {A B : Type 0} → A → B → Mirror A B
mirror_of first second = record { first = first; second = second }

module _ {A B : Type 0} (a : Source.Ghosts A) (b : Source.Ghosts B) where
  abbrev pub mirror_meaning : Mirror A B → Meaning
  mirror_meaning s = mirror_over (a.meaning s.first) (b.meaning s.second)

  -- a read of the one that has the way
  pub record MirrorRead (s : Mirror A B) (way n : ℕ) (answer : Result (List ℕ) Fault) (t : Mirror A B) : Type 0 where
    pub of_first : way < (a.meaning s.first).ways → PassedRead a.reads s.first way n answer (λ first. record s { first = first }) t
    pub of_second : (a.meaning s.first).ways ≤ way → PassedRead b.reads s.second (way - (a.meaning s.first).ways) n answer (λ second. record s { second = second }) t

  abbrev pub mirror_reads : Mirror A B → ℕ → ℕ → Result (List ℕ) Fault → Mirror A B → Type 0
  mirror_reads s way n answer t = GuardedRead (mirror_meaning s) s way n answer t (MirrorRead s way n answer t)

  abbrev pub mirror_source : Source.Ghosts (Mirror A B)
  mirror_source = record { meaning = mirror_meaning; reads = mirror_reads }

  module _ (c : Device.Ghosts A) (d : Device.Ghosts B) where
    -- a write of both; in which order is not to be seen, since neither knows of the other
    pub record MirrorWrite (s : Mirror A B) (n : ℕ) (block : List ℕ) (answer : Result Unit Fault) (t : Mirror A B) : Type 0 where
      pub answer_first : Result Unit Fault
      pub answer_second : Result Unit Fault
      pub first : A
      pub second : B
      pub step_first : c.writes s.first n block answer_first first
      pub step_second : d.writes s.second n block answer_second second
      pub answered : answer ≡ taken_by_one answer_first answer_second
      pub after : t ≡ mirror_of first second

    abbrev pub mirror_writes : Mirror A B → ℕ → List ℕ → Result Unit Fault → Mirror A B → Type 0
    mirror_writes s n block answer t = GuardedWrite (mirror_meaning s) s n answer t (MirrorWrite s n block answer t)

    -- a settle of both
    pub record MirrorSettle (s : Mirror A B) (answer : Bool) (t : Mirror A B) : Type 0 where
      pub answer_first : Bool
      pub answer_second : Bool
      pub first : A
      pub second : B
      pub step_first : c.settles s.first answer_first first
      pub step_second : d.settles s.second answer_second second
      pub answered : answer ≡ answer_first && answer_second
      pub after : t ≡ mirror_of first second

    abbrev pub mirror_device : Device.Ghosts (Mirror A B)
    mirror_device = record { writes = mirror_writes; settles = MirrorSettle }
