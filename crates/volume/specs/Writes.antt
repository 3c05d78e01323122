-- Which writes a call makes on the devices, one after the other.
use Rattle.std.specs.Prelude.{◌≡◌, ℕ, zero, suc, ◌<◌, Option, Some, None, List, [], ◌∷◌, slice_index_or, Result, Ok, Err}
use Rattle.device.specs.declared.device.Device
use Rattle.device.specs.declared.fault.Fault.{Fault}
use Rattle.device.specs.Memory.{part}
use Rattle.geometry.specs.Geometry.{levels, place}
use Rattle.tree.specs.Paths.{new_block, risen}
use Rattle.volume.specs.Refusals.{Reason, Stuck, blamed, data_unwritten, tree_unwritten}

-- the first refused write: the one there was, or else this one
abbrev pub first_failed : Option Stuck → (Fault → Stuck) → Result Unit Fault → Option Stuck
first_failed (Some stuck) at answer = Some stuck
first_failed None at (Ok written) = None
first_failed None at (Err fault) = Some (at fault)

-- what a write answers, by its first refused one
abbrev pub unwritten : Option Stuck → Result Unit Reason
unwritten None = Ok tt
unwritten (Some stuck) = Err (blamed 53 stuck)

-- the tree block that passed at level l
abbrev pub passed_at : List ℕ → ℕ → List ℕ
passed_at log l = part log (suc l)

-- what a write puts on its path: the new tree blocks, worked out from the record, and the root over them
pub record IsPlan (image : List ℕ → List ℕ) (blocks n : ℕ) (log block : List ℕ) (tree_blocks : List (List ℕ)) (root : List ℕ) : Type 0 where
  pub new_blocks : (l : ℕ) → l < levels blocks → slice_index_or tree_blocks l [] ≡ new_block image blocks n (passed_at log) block l
  pub new_root : root ≡ risen image blocks n (passed_at log) block (levels blocks)

module _ {D : Type 0} (d : Device.Ghosts D) where
  -- one write, and what comes of its answer
  pub record Put (n : ℕ) (block : List ℕ) (at : Fault → Stuck) (before : Option Stuck) (s : D) (failed : Option Stuck) (t : D) : Type 0 where
    pub answer : Result Unit Fault
    pub step : d.writes s n block answer t
    pub told : failed ≡ first_failed before at answer

  -- some writes, and then others
  pub record PutAfter (Lower Level : Option Stuck → D → Type 0) : Type 0 where
    pub failed : Option Stuck
    pub between : D
    pub lower : Lower failed between
    pub level : Level failed between

  -- the tree blocks of the lowest l levels are written in turn, each with its cell replaced by the image of what was written before it,
  -- whether or not one is refused. `log` has the tree blocks as they passed
  module _ (image : List ℕ → List ℕ) (blocks n : ℕ) (log block : List ℕ) (first : Option Stuck) (s : D) where
    abbrev pub PutUp : ℕ → Option Stuck → D → Type 0
    PutUp zero failed t = (failed ≡ first) × (t ≡ s)
    PutUp (suc l) failed t =
        PutAfter (PutUp l)
        (λ before between. let number = (place blocks l n).0 in Put number (new_block image blocks n (passed_at log) block l) (tree_unwritten l number) before between failed t)

  -- a write whose answer is dropped, and what goes on from there
  pub record Dropped (n : ℕ) (block : List ℕ) (s : D) (Others : D → Type 0) : Type 0 where
    pub answer : Result Unit Fault
    pub between : D
    pub step : d.writes s n block answer between
    pub others : Others between

  -- these blocks are written in turn, the first to block `at` and the others after it, whether or not one is refused
  abbrev pub InTurn : ℕ → List (List ℕ) → D → D → Type 0
  InTurn at [] s t = t ≡ s
  InTurn at (block ∷ blocks) s t = Dropped at block s (λ between. InTurn (suc at) blocks between t)

-- the writes of a whole path: the data block, and then the tree blocks over it
module _ {D T : Type 0} (d : Device.Ghosts D) (e : Device.Ghosts T) (image : List ℕ → List ℕ) where
  pub record PathPut (blocks n : ℕ) (log block : List ℕ) (store : D) (tree : T) (failed : Option Stuck) (store' : D) (tree' : T) : Type 0 where
    pub first : Option Stuck
    pub data_block : Put d n block (data_unwritten n) None store first store'
    pub tree_blocks : PutUp e image blocks n log block first tree (levels blocks) failed tree'
