-- How a block is looked for in the ways of a device, and the walk down the tree to a data block: which reads are made, one after the
-- other, and what comes of their answers.
use Rattle.std.specs.Prelude.{◌≡◌, ◌≢◌, ◌⊎◌, ℕ, zero, suc, Option, Some, None, List, length, Result, Ok, Err, MatchResult}
use Rattle.device.specs.declared.fault.Fault.{Fault}
use Rattle.device.specs.declared.source.Source
use Rattle.device.specs.Memory.{with_part}
use Rattle.device.specs.Zeros.{zeros}
use Rattle.geometry.specs.Geometry.{levels, place}
use Rattle.tree.specs.Paths.{cell_at}
use Rattle.volume.specs.Record.{blank}
use Rattle.volume.specs.Refusals.{Reason, data_block, tree_block}

-- what came of looking for a block, by what it returned and what it left in the block area
abbrev pub outcome_of : Result Unit (Option Fault) → List ℕ → Result (List ℕ) (Option Fault)
outcome_of (Ok found) area = Ok area
outcome_of (Err why) area = Err why

module _ {S : Type 0} (g : Source.Ghosts S) where
  -- one read of a way, and how it goes on: with the bytes that it gave or with its fault, from the state that it left
  pub record Asked (way n : ℕ) (s : S) (Given : List ℕ → S → Type 0) (Refused : Fault → S → Type 0) : Type 0 where
    pub answer : Result (List ℕ) Fault
    pub between : S
    pub step : g.reads s way n answer between
    pub goes_on : MatchResult answer (λ bytes. Given bytes between) (λ fault. Refused fault between)

  module _ (image : List ℕ → List ℕ) where
    -- Block n is asked for in `left` ways from `way` on, up to the first that passes, and no further. A way passes if it answers a block
    -- with the expected image. Where none passes, the outcome is why the last way did not: its fault, or none if its bytes did not match.
    module _ (n : ℕ) (expected : List ℕ) where
      abbrev pub Search : ℕ → ℕ → Option Fault → S → Result (List ℕ) (Option Fault) → S → Type 0
      Search zero way last s outcome t = (outcome ≡ Err last) × (t ≡ s)
      Search (suc left) way last s outcome t =
          Asked way n s
          (λ bytes between.
          (image bytes ≡ expected) × (length bytes ≡ 512) × (outcome ≡ Ok bytes) × (t ≡ between)
          ⊎ (image bytes ≢ expected) × Search left (suc way) None between outcome t)
          (λ fault between. Search left (suc way) (Some fault) between outcome t)

    -- block n is looked for in the ways from 0 on, up to the first that passes; what holds then, where one passed and where none did
    pub record Tried (n : ℕ) (expected : List ℕ) (s : S) (Passed : List ℕ → S → Type 0) (Failed : Option Fault → S → Type 0) : Type 0 where
      pub outcome : Result (List ℕ) (Option Fault)
      pub between : S
      pub search : Search n expected (g.meaning s).ways 0 None s outcome between
      pub goes_on : MatchResult outcome (λ bytes. Passed bytes between) (λ why. Failed why between)

    -- one level of the walk: the tree block is looked for; where it passes, it comes into the log, and its cell is expected next
    abbrev pub Descended : ℕ → ℕ → ℕ → List ℕ → List ℕ → S → Result Unit Reason → List ℕ → List ℕ → S → Type 0
    Descended l block c expected log s answer next left t =
        Tried block expected s
        (λ bytes between. (answer ≡ Ok tt) × (next ≡ cell_at bytes c) × (left ≡ with_part log (suc l) bytes) × (t ≡ between))
        (λ why between. (answer ≡ Err (tree_block l block why)) × (left ≡ log) × (t ≡ between))

    -- The walk to data block n of so many, over the l lowest levels. `expected` is the image that the block of the highest of these has to
    -- have. It ends with the image that the data block has to have, or refused; the blocks that passed come into the record.
    module _ (blocks n : ℕ) where
      abbrev pub Walked : ℕ → List ℕ → List ℕ → S → Result (List ℕ) Reason → List ℕ → S → Type 0
      Walked zero expected log s answer left t = (answer ≡ Ok expected) × (left ≡ log) × (t ≡ s)
      Walked (suc l) expected log s answer left t =
          Tried (place blocks l n).0 expected s
          (λ bytes between. Walked l (cell_at bytes (place blocks l n).1) (with_part log (suc l) bytes) between answer left t)
          (λ why between. (answer ≡ Err (tree_block l (place blocks l n).0 why)) × (left ≡ log) × (t ≡ between))

    -- data block n looked for after the walk: it fills the block area, and comes into the record
    abbrev pub FetchedBlock : ℕ → List ℕ → List ℕ → S → Result Unit Reason → List ℕ → List ℕ → S → Type 0
    FetchedBlock n expected log s answer block left t =
        Tried n expected s
        (λ bytes between. (answer ≡ Ok tt) × (block ≡ bytes) × (left ≡ with_part log 0 bytes) × (t ≡ between))
        (λ why between. (answer ≡ Err (data_block n why)) × (block ≡ zeros) × (left ≡ log) × (t ≡ between))

-- A read of data block n of so many, from the root down: the tree device is asked for the tree blocks, and then, if all passed, the data
-- device for the data block. This is what it answers, and what it leaves in the block area and in the record area.
module _ {S U : Type 0} (g : Source.Ghosts S) (h : Source.Ghosts U) (image : List ℕ → List ℕ) where
  pub record Fetched (blocks n : ℕ) (root : List ℕ) (store : S) (tree : U) (answer : Result Unit Reason) (block left : List ℕ) (store' : S) (tree' : U) : Type 0 where
    pub walked : Result (List ℕ) Reason
    pub passed : List ℕ
    pub walk : Walked h image blocks n (levels blocks) root blank tree walked passed tree'
    pub fetch : MatchResult walked
        (λ expected. FetchedBlock g image n expected passed store answer block left store')
        (λ e. (answer ≡ Err e) × (block ≡ zeros) × (left ≡ passed) × (store' ≡ store))
