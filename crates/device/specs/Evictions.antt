-- Which line of a cache makes room, after a list of writes.
use Rattle.std.specs.Prelude.{◌≡◌, ℕ, List, [], ◌∷◌, replicate, Option, None}
use Rattle.device.specs.declared.lines.Line.{Line}
use Rattle.device.specs.declared.lines.Slot.{Slot}
use Rattle.device.specs.declared.lines.Slot.TheVariants.{Least}
use Rattle.device.specs.Lines.{Goes, IsLineOf, IsSlotFor}

-- block n is written, with any bytes, and goes to a slot that is for it
pub record Put (lines : List (Option Line)) (n : ℕ) (lines' : List (Option Line)) : Type 0 where
  pub block : List ℕ
  pub slot : Slot
  pub is_for : IsSlotFor lines n slot
  pub goes : Goes lines n block slot lines'

-- blocks with these numbers are written in turn
abbrev pub Puts : List (Option Line) → List ℕ → List (Option Line) → Type 0
Puts lines [] lines' = lines' ≡ lines
Puts lines (n ∷ numbers) lines' = (between : List (Option Line)) × Put lines n between × Puts between numbers lines'

-- where block n is written, the line of block gone makes room: that is the one slot that is for n
pub record Evicts (lines : List (Option Line)) (n gone : ℕ) : Type 0 where
  pub i : ℕ
  pub a : Line
  pub there : IsLineOf lines gone i a
  pub is_for : IsSlotFor lines n (Least i)
  pub only : (slot : Slot) → IsSlotFor lines n slot → slot ≡ Least i

-- so it is after the writes of these blocks to a cache of eight empty lines
pub record EvictsAfter (numbers : List ℕ) (n gone : ℕ) : Type 0 where
  -- the writes can be made
  pub some : (lines : List (Option Line)) × Puts (replicate 8 None) numbers lines
  -- and however they are made
  pub all : (lines : List (Option Line)) → Puts (replicate 8 None) numbers lines → Evicts lines n gone
