-- The line that is written least among those seen so far.
use Rattle.std.specs.Prelude.{◌≡◌, ℕ, ◌<◌, ◌⊎◌}
use Rattle.device.specs.declared.lines.Line.{Line}
use Rattle.device.specs.declared.lines.Seen.{Seen}
use Rattle.device.specs.Lines.{NotAfter}

abbrev pub seen_at : ℕ → Line → Seen
seen_at at a = record { at = at; count = a.count; number = a.number }

-- the line a at `at` in place of what was seen, or that still
pub data IsBetterOf (old : Seen) (at : ℕ) (a : Line) (new : Seen) : Type 0 where
  taken : new ≡ seen_at at a → NotAfter a.count a.number old.count old.number → IsBetterOf old at a new
  stays : new ≡ old → ((old.count < a.count) ⊎ ((old.count ≡ a.count) × (old.number < a.number))) → IsBetterOf old at a new
