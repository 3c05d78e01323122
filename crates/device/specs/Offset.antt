-- The layer that begins at a start: a part of the source below.
use Rattle.std.specs.Prelude.{ℕ, ◌+◌, ◌-◌, min, Bool, List, Result}
use Rattle.device.specs.declared.device.Device
use Rattle.device.specs.declared.fault.Fault.{Fault}
use Rattle.device.specs.declared.offset.Offset.{Offset}
use Rattle.device.specs.declared.source.Source
use Rattle.device.specs.Checks.{GuardedRead, GuardedWrite}
use Rattle.device.specs.Meaning.{Meaning}
use Rattle.device.specs.Passed.{PassedRead, PassedSettle, PassedWrite}

-- count blocks from start on, or as many as there are, so none where the start is past the end; ways, sound and clear are those below
abbrev pub offset_over : ℕ → ℕ → Meaning → Meaning
offset_over start count below =
    record { blocks = min count (below.blocks - start); ways = below.ways; cell = λ way n. below.cell way (start + n); sound = below.sound; clear = below.clear }

-- the layer that begins at a start, over the source below
abbrev pub offset_at : {D : Type 0} → ℕ → ℕ → D → Offset D
offset_at start count below = record { start = start; count = count; below = below }

module _ {D : Type 0} (g : Source.Ghosts D) where
  abbrev pub offset_meaning : Offset D → Meaning
  offset_meaning s = offset_over s.start s.count (g.meaning s.below)

  -- block n is the block start + n below
  abbrev pub offset_reads : Offset D → ℕ → ℕ → Result (List ℕ) Fault → Offset D → Type 0
  offset_reads s way n answer t =
      GuardedRead (offset_meaning s) s way n answer t (PassedRead g.reads s.below way (s.start + n) answer (λ below. record s { below = below }) t)

  abbrev pub offset_source : Source.Ghosts (Offset D)
  offset_source = record { meaning = offset_meaning; reads = offset_reads }

  module _ (d : Device.Ghosts D) where
    abbrev pub offset_writes : Offset D → ℕ → List ℕ → Result Unit Fault → Offset D → Type 0
    offset_writes s n block answer t =
        GuardedWrite (offset_meaning s) s n answer t (PassedWrite d.writes s.below (s.start + n) block answer (λ below. record s { below = below }) t)

    abbrev pub offset_settles : Offset D → Bool → Offset D → Type 0
    offset_settles s answer t = PassedSettle d.settles s.below answer (λ below. record s { below = below }) t

    abbrev pub offset_device : Device.Ghosts (Offset D)
    offset_device = record { writes = offset_writes; settles = offset_settles }
