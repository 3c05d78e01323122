-- What the steps of the calls come to, told by what the devices mean. The proofs of the promise stand on these, and proofs/Laws shows
-- that the steps come to them.
use Rattle.std.specs.Prelude.{◌≡◌, ◌≢◌, ℕ, zero, suc, ◌<◌, cond, nat_lt, Option, None, List, [], length, slice_index_or, Result, Ok, Err, MatchResult, MatchOption}
use Rattle.device.specs.declared.fault.Fault.{Fault}
use Rattle.device.specs.Meaning.{CanRead, Exists, Meaning, Stays, Written, holding}
use Rattle.device.specs.Memory.{with_part}
use Rattle.device.specs.Zeros.{zeros}
use Rattle.geometry.specs.Geometry.{levels, place}
use Rattle.tree.specs.Paths.{cell_at, new_block}
use Rattle.volume.specs.Record.{blank}
use Rattle.volume.specs.Refusals.{Reason, Stuck, data_block, data_unwritten, tree_block, tree_unwritten}
use Rattle.volume.specs.Writes.{first_failed, passed_at}

module _ (image : List ℕ → List ℕ) where
  module _ (m : Meaning) (n : ℕ) (expected : List ℕ) where
    -- this way answers bytes whose image is not the expected one
    pub record Mismatch (way : ℕ) : Type 0 where
      pub bytes : List ℕ
      pub answered : CanRead m way n (Ok bytes)
      pub other : image bytes ≢ expected

    -- this way does not pass: it answers a fault, or, without one, bytes that do not match
    abbrev pub FailsWith : ℕ → Option Fault → Type 0
    FailsWith way why = MatchOption why (Mismatch way) (λ fault. CanRead m way n (Err fault))

    pub record Fails (way : ℕ) : Type 0 where
      pub why : Option Fault
      pub fails : FailsWith way why

    -- one way passes with these bytes, and none before it
    pub record Passes (bytes : List ℕ) : Type 0 where
      pub way : ℕ
      pub below : way < m.ways
      pub earlier : (w : ℕ) → w < way → Fails w
      pub answered : CanRead m way n (Ok bytes)
      pub as_expected : image bytes ≡ expected
      pub whole : length bytes ≡ 512

    -- of so many ways none passes, and the last one not for this
    pub record NoneOf (ways : ℕ) (why : Option Fault) : Type 0 where
      pub all : (w : ℕ) → w < ways → Fails w
      pub last : (w : ℕ) → suc w ≡ ways → FailsWith w why

    -- block n looked for in all ways, from 0 on: what passed, or why the last did not
    abbrev pub Trial : Result (List ℕ) (Option Fault) → Type 0
    Trial outcome = MatchResult outcome Passes (NoneOf m.ways)

  -- block n is looked for, and then, where it passed or where it did not, this holds
  pub record Tried (m : Meaning) (n : ℕ) (expected : List ℕ) (Passed : List ℕ → Type 0) (Failed : Option Fault → Type 0) : Type 0 where
    pub outcome : Result (List ℕ) (Option Fault)
    pub trial : Trial m n expected outcome
    pub goes_on : MatchResult outcome Passed Failed

  module _ (m : Meaning) (blocks n : ℕ) where
    abbrev pub Walked : ℕ → List ℕ → List ℕ → Result (List ℕ) Reason → List ℕ → Type 0
    Walked zero expected log answer left = (answer ≡ Ok expected) × (left ≡ log)
    Walked (suc l) expected log answer left =
        Tried m (place blocks l n).0 expected
        (λ bytes. Walked l (cell_at bytes (place blocks l n).1) (with_part log (suc l) bytes) answer left)
        (λ why. (answer ≡ Err (tree_block l (place blocks l n).0 why)) × (left ≡ log))

  abbrev pub FetchedBlock : Meaning → ℕ → List ℕ → List ℕ → Result Unit Reason → List ℕ → List ℕ → Type 0
  FetchedBlock m n expected log answer block left =
      Tried m n expected
      (λ bytes. (answer ≡ Ok tt) × (block ≡ bytes) × (left ≡ with_part log 0 bytes))
      (λ why. (answer ≡ Err (data_block n why)) × (block ≡ zeros) × (left ≡ log))

  pub record Fetched (store tree : Meaning) (blocks n : ℕ) (root : List ℕ) (answer : Result Unit Reason) (block left : List ℕ) : Type 0 where
    pub walked : Result (List ℕ) Reason
    pub passed : List ℕ
    pub walk : Walked tree blocks n (levels blocks) root blank walked passed
    pub fetch : MatchResult walked
        (λ expected. FetchedBlock store n expected passed answer block left)
        (λ e. (answer ≡ Err e) × (block ≡ zeros) × (left ≡ passed))

-- block `number` is written after what came before
pub record Put (number : ℕ) (block : List ℕ) (at : Fault → Stuck) (before : Option Stuck) (m : Meaning) (after : Option Stuck) (m' : Meaning) : Type 0 where
  pub answer : Result Unit Fault
  pub written : Written m number block answer m'
  pub told : after ≡ first_failed before at answer

-- one level is put after the lower ones
pub record PutAfter (Lower : Option Stuck → Meaning → Type 0) (Level : Option Stuck → Meaning → Type 0) : Type 0 where
  pub failed : Option Stuck
  pub meaning : Meaning
  pub lower : Lower failed meaning
  pub level : Level failed meaning

module _ (image : List ℕ → List ℕ) (blocks n : ℕ) (log block : List ℕ) (first : Option Stuck) (m : Meaning) where
  abbrev pub PutUp : ℕ → Option Stuck → Meaning → Type 0
  PutUp zero failed m' = (failed ≡ first) × (m' ≡ m)
  PutUp (suc l) failed m' =
      PutAfter (PutUp l) (λ before between. let number = (place blocks l n).0 in Put number (new_block image blocks n (passed_at log) block l) (tree_unwritten l number) before between failed m')

-- the writes of a whole path
pub record PathPut (image : List ℕ → List ℕ) (blocks n : ℕ) (log block : List ℕ) (store tree : Meaning) (failed : Option Stuck) (store' tree' : Meaning) : Type 0 where
  pub first : Option Stuck
  pub data_block : Put n block (data_unwritten n) None store first store'
  pub tree_blocks : PutUp image blocks n log block first tree (levels blocks) failed tree'

-- these blocks were written from block 0 on, and nothing else: every sure cell of theirs holds its block, and all other cells stand
pub record Rewritten (m : Meaning) (blocks : List (List ℕ)) (m' : Meaning) : Type 0 where
  pub stays : Stays m m'
  pub cells : (way k : ℕ) → Exists m way k → m'.cell way k ≡ cond (nat_lt k (length blocks)) (holding (slice_index_or blocks k []) (m.cell way k)) (m.cell way k)
