-- What each call of the volume does: what it asks of the devices, its answer, and what every area, the register and the volume are
-- afterwards.
use Rattle.std.specs.Prelude.{◌≡◌, ℕ, Bool, true, false, ◌&&◌, Option, Some, None, List, length, replicate, Result, Ok, Err, MatchResult, MatchBool}
use Rattle.device.specs.declared.device.Device
use Rattle.device.specs.declared.source.Source
use Rattle.geometry.specs.Geometry.{levels}
use Rattle.tree.specs.Layout.{root_of, tree_of, zero_block}
use Rattle.tree.specs.Paths.{risen}
use Rattle.volume.specs.declared.register.Register.{Register}
use Rattle.volume.specs.declared.volume.Volume.{Volume}
use Rattle.volume.specs.Checks.{begin_check, format_check, look_check, open_check, read_check, shut_check, slip_check, write_check}
use Rattle.volume.specs.Parts.{Holds}
use Rattle.volume.specs.Record.{blank}
use Rattle.volume.specs.Refusals.{Reason, Stuck, plain}
use Rattle.volume.specs.View.{Base, Open, open_of}
use Rattle.volume.specs.Walk.{Fetched, Walked}
use Rattle.volume.specs.Writes.{InTurn, PathPut, passed_at, unwritten}

-- the checks came first: refused, this holds; passed, that
pub record Checked {A : Type 0} (check : Result A Reason) (Refused : Reason → Type 0) (Goes : A → Type 0) : Type 0 where
  pub refused : (e : Reason) → check ≡ Err e → Refused e
  pub goes_on : (a : A) → check ≡ Ok a → Goes a

-- both devices are settled, once each; clear where both say so
pub record Settling {D T : Type 0} (d : Device.Ghosts D) (e : Device.Ghosts T) (store : D) (tree : T) (clear : Bool) (store' : D) (tree' : T) : Type 0 where
  pub clear_store : Bool
  pub clear_tree : Bool
  pub step_store : d.settles store clear_store store'
  pub step_tree : e.settles tree clear_tree tree'
  pub told : clear ≡ clear_store && clear_tree

module _ {D T H : Type 0} (b : Base D T H) where
  -- this is what the volume has in mind now, and all else of it stands, devices and all
  pub record Minds (s : Volume D T H) (mind : Option Open) (s' : Volume D T H) : Type 0 where
    pub present : open_of s'.present ≡ mind
    pub others : s' ≡ record s { present = s'.present }

  -- this is what the volume has in mind now, and but for its devices all else of it stands
  pub record Works (s : Volume D T H) (mind : Option Open) (s' : Volume D T H) : Type 0 where
    pub present : open_of s'.present ≡ mind
    pub others : s' ≡ record s { present = s'.present; store = s'.store; tree = s'.tree }

  abbrev image : Volume D T H → List ℕ → List ℕ
  image s = b.hash.image s.hash

  -- What an accepted call, or one that got further than its checks, makes of a volume that was s before and is s' afterwards.
  module _ (s : Volume D T H) where
    -- open has the register's number of blocks and its root
    pub record Opening (r : Register) (answer : Result Unit Reason) (s' : Volume D T H) : Type 0 where
      pub accepted : answer ≡ Ok tt
      pub after : Minds s (Some (record { blocks = r.blocks; root = r.root; slip_out = false })) s'

    -- a slip is out
    pub record Beginning (p : Open) (answer : Result Unit Reason) (s' : Volume D T H) : Type 0 where
      pub accepted : answer ≡ Ok tt
      pub after : Minds s (Some (record p { slip_out = true })) s'

    -- read leaves what the volume has in mind
    pub record Reading (p : Open) (n : ℕ) (answer : Result Unit Reason) (block log : List ℕ) (s' : Volume D T H) : Type 0 where
      pub fetched : Fetched b.store b.tree (image s) p.blocks n p.root s.store s.tree answer block log s'.store s'.tree
      pub after : Works s (Some p) s'

    -- the write itself, after a walk that left the tree device so: the data block, and over it the new tree blocks, whether or not one is refused; the root moves in any case
    pub record Putting (p : Open) (n : ℕ) (block : List ℕ) (walked : T) (answer : Result Unit Reason) (log : List ℕ) (s' : Volume D T H) : Type 0 where
      pub failed : Option Stuck
      pub put : PathPut b.store_device b.tree_device (image s) p.blocks n log block s.store walked failed s'.store s'.tree
      pub answered : answer ≡ unwritten failed
      pub after : Works s (Some (record p { root = risen (image s) p.blocks n (passed_at log) block (levels p.blocks) })) s'

    -- only after a walk that passes, as that of read; nothing is asked of the data device before it is written
    pub record Writing (p : Open) (n : ℕ) (block : List ℕ) (answer : Result Unit Reason) (log : List ℕ) (s' : Volume D T H) : Type 0 where
      pub walked : Result (List ℕ) Reason
      pub tree_walked : T
      pub walk : Walked b.tree (image s) p.blocks n (levels p.blocks) p.root blank s.tree walked log tree_walked
      pub put : MatchResult walked
          (λ expected. Putting p n block tree_walked answer log s')
          (λ e. (answer ≡ Err e) × (s' ≡ record s { tree = tree_walked }))

    -- keep: where settling leaves both devices clear, the register gets the root as of now, and no slip is out any more
    pub record Keeping (p : Open) (r : Register) (answer : Result Unit Reason) (s' : Volume D T H) (r' : Register) : Type 0 where
      pub clear : Bool
      pub settled : Settling b.store_device b.tree_device s.store s.tree clear s'.store s'.tree
      pub ended : MatchBool clear
          ((answer ≡ Ok tt) × Holds r' p.blocks b.hash.KIND p.root × Works s (Some (record p { slip_out = false })) s')
          ((answer ≡ Err (plain 44)) × (r' ≡ r) × Works s (Some p) s')

    -- leave and shut close the volume
    pub record Closing (answer : Result Unit Reason) (s' : Volume D T H) : Type 0 where
      pub accepted : answer ≡ Ok tt
      pub after : Minds s None s'

    -- format: zeros on the data device and the tree over them on the other, block by block, whether or not a write is refused; then both are
    -- settled, and where that leaves them clear, the register is theirs
    pub record Formatting (r : Register) (answer : Result Unit Reason) (s' : Volume D T H) (r' : Register) : Type 0 where
      pub zeros_store : D
      pub zeros_tree : T
      pub written_store : InTurn b.store_device 0 (replicate (b.store.meaning s.store).blocks zero_block) s.store zeros_store
      pub written_tree : InTurn b.tree_device 0 (tree_of (image s) (replicate (b.store.meaning s.store).blocks zero_block)) s.tree zeros_tree
      pub clear : Bool
      pub settled : Settling b.store_device b.tree_device zeros_store zeros_tree clear s'.store s'.tree
      pub after : Works s None s'
      pub ended : MatchBool clear
          ((answer ≡ Ok tt) × Holds r' (b.store.meaning s.store).blocks b.hash.KIND (root_of (image s) (replicate (b.store.meaning s.store).blocks zero_block)))
          ((answer ≡ Err (plain 44)) × (r' ≡ r))

  -- The calls. Refused by a check, they leave the volume as it was, and whatever was passed to them.
  abbrev pub Stood : Volume D T H → Result Unit Reason → Volume D T H → Reason → Type 0
  Stood s answer s' e = (answer ≡ Err e) × (s' ≡ s)

  abbrev pub OpenStep : Volume D T H → Register → Result Unit Reason → Volume D T H → Type 0
  OpenStep s r answer s' =
      Checked (open_check (open_of s.present) r.blocks r.kind b.hash.KIND (b.store.meaning s.store).blocks (b.tree.meaning s.tree).blocks)
      (Stood s answer s') (λ passed. Opening s r answer s')

  abbrev pub BeginStep : Volume D T H → Result Unit Reason → Volume D T H → Type 0
  BeginStep s answer s' = Checked (begin_check (open_of s.present)) (Stood s answer s') (λ p. Beginning s p answer s')

  abbrev pub ReadStep : Volume D T H → ℕ → List ℕ → List ℕ → Result Unit Reason → List ℕ → List ℕ → Volume D T H → Type 0
  ReadStep s n block log answer block' log' s' =
      Checked (read_check (open_of s.present) n (length block) (length log))
      (λ e. Stood s answer s' e × (block' ≡ block) × (log' ≡ log)) (λ p. Reading s p n answer block' log' s')

  abbrev pub WriteStep : Volume D T H → ℕ → ℕ → List ℕ → List ℕ → Result Unit Reason → List ℕ → Volume D T H → Type 0
  WriteStep s slip n block log answer log' s' =
      Checked (write_check (open_of s.present) s.number slip n (length block) (length log))
      (λ e. Stood s answer s' e × (log' ≡ log)) (λ p. Writing s p n block answer log' s')

  abbrev pub KeepStep : Volume D T H → ℕ → Register → Result Unit Reason → Volume D T H → Register → Type 0
  KeepStep s slip r answer s' r' =
      Checked (slip_check (open_of s.present) s.number slip) (λ e. Stood s answer s' e × (r' ≡ r)) (λ p. Keeping s p r answer s' r')

  abbrev pub LeaveStep : Volume D T H → ℕ → Result Unit Reason → Volume D T H → Type 0
  LeaveStep s slip answer s' = Checked (slip_check (open_of s.present) s.number slip) (Stood s answer s') (λ p. Closing s answer s')

  abbrev pub ShutStep : Volume D T H → Result Unit Reason → Volume D T H → Type 0
  ShutStep s answer s' = Checked (shut_check (open_of s.present)) (Stood s answer s') (λ p. Closing s answer s')

  abbrev pub FormatStep : Volume D T H → Register → Result Unit Reason → Volume D T H → Register → Type 0
  FormatStep s r answer s' r' =
      Checked (format_check (open_of s.present) (b.store.meaning s.store).blocks (b.tree.meaning s.tree).blocks)
      (λ e. Stood s answer s' e × (r' ≡ r)) (λ passed. Formatting s r answer s' r')

-- look reads as a volume does, over two sources, a hash of this kind and a register
module _ {S U : Type 0} (g : Source.Ghosts S) (h : Source.Ghosts U) (image : List ℕ → List ℕ) (kind : ℕ) where
  abbrev pub LookStep : S → U → Register → ℕ → List ℕ → List ℕ → Result Unit Reason → List ℕ → List ℕ → S → U → Type 0
  LookStep s t r n block log answer block' log' s' t' =
      Checked (look_check r.blocks r.kind kind (g.meaning s).blocks (h.meaning t).blocks n (length block) (length log))
      (λ e. (answer ≡ Err e) × (block' ≡ block) × (log' ≡ log) × (s' ≡ s) × (t' ≡ t))
      (λ passed. Fetched g h image r.blocks n r.root s t answer block' log' s' t')
