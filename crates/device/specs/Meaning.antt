-- What a source and a device mean to the code above, whatever stands below.
use Rattle.std.specs.Prelude.{◌≡◌, ℕ, ◌<◌, ◌≤◌, Bool, true, cond, nat_eq, List, length, Result, Ok, Err}
use Rattle.device.specs.declared.fault.Fault.{Fault}
use Rattle.device.specs.Faults.{past_end, past_ways}

-- One block as one way has it. A sure cell holds 512 bytes, and whoever reads it gets them. A loose cell answers as it likes. (That the
-- numbers of a block are bytes is in the types of the code, `[u8; 512]`.)
pub data Cell : Type 0 where
  sure : List ℕ → Cell
  loose : Cell

abbrev pub IsSure : Cell → Type 0
IsSure (sure bytes) = Unit {0}
IsSure loose = ⊥

pub record Meaning : Type 0 where
  pub blocks : ℕ
  pub ways : ℕ
  -- by way and number
  pub cell : ℕ → ℕ → Cell
  -- a sound source has only sure cells
  pub sound : Bool
  -- nothing written is held back above the bottom
  pub clear : Bool

-- a way and a number that there are
pub record Exists (m : Meaning) (way n : ℕ) : Type 0 where
  pub way_below : way < m.ways
  pub below : n < m.blocks

-- what every meaning keeps to
pub record IsMeaning (m : Meaning) : Type 0 where
  pub few_blocks : m.blocks ≤ 65536
  pub some_ways : 1 ≤ m.ways
  pub few_ways : m.ways ≤ 8
  pub whole : (way n : ℕ) (bytes : List ℕ) → Exists m way n → m.cell way n ≡ sure bytes → length bytes ≡ 512
  pub law_of_sound : m.sound ≡ true → (way n : ℕ) → Exists m way n → IsSure (m.cell way n)

-- what a read of a cell may answer: its bytes where it is sure
abbrev pub MayAnswer : Cell → Result (List ℕ) Fault → Type 0
MayAnswer (sure bytes) answer = answer ≡ Ok bytes
MayAnswer loose answer = Unit {0}

-- what a read of a way and a number may answer: the number is looked at first, then the way, then the cell
pub record CanRead (m : Meaning) (way n : ℕ) (answer : Result (List ℕ) Fault) : Type 0 where
  pub number_first : m.blocks ≤ n → answer ≡ Err (past_end n)
  pub then_way : n < m.blocks → m.ways ≤ way → answer ≡ Err (past_ways way)
  pub then_cell : Exists m way n → MayAnswer (m.cell way n) answer

-- a cell after an accepted write of its block
abbrev pub holding : List ℕ → Cell → Cell
holding block (sure bytes) = sure block
holding block loose = loose

-- the cell of block k after a write of block n
abbrev pub after_write : Result Unit Fault → ℕ → List ℕ → ℕ → Cell → Cell
after_write (Ok done) n block k cell = cond (nat_eq k n) (holding block cell) cell
after_write (Err fault) n block k cell = cell

-- what stays in every call: the counts, and that it is sound
pub record Stays (m m' : Meaning) : Type 0 where
  pub blocks : m'.blocks ≡ m.blocks
  pub ways : m'.ways ≡ m.ways
  pub sound : m.sound ≡ true → m'.sound ≡ true

-- a write of block n to all ways, what it answered, and the meaning afterwards: any sure cell of the block has it accepted; accepted, every
-- sure cell of the block holds the new bytes; all other cells stand
pub record Written (m : Meaning) (n : ℕ) (block : List ℕ) (answer : Result Unit Fault) (m' : Meaning) : Type 0 where
  pub number_first : m.blocks ≤ n → answer ≡ Err (past_end n)
  pub taken : (way : ℕ) → Exists m way n → IsSure (m.cell way n) → answer ≡ Ok tt
  pub stays : Stays m m'
  pub cells : (way k : ℕ) → Exists m way k → m'.cell way k ≡ after_write answer n block k (m.cell way k)

-- a settle, its answer whether nothing is held back now, and the meaning afterwards: every cell stands, and what is sound is clear
pub record Settled (m : Meaning) (answer : Bool) (m' : Meaning) : Type 0 where
  pub told : answer ≡ m'.clear
  pub sound_is_clear : m.sound ≡ true → m'.clear ≡ true
  pub stays : Stays m m'
  pub cells : (way k : ℕ) → Exists m way k → m'.cell way k ≡ m.cell way k

-- the law of a source: its states have meanings, a read answers what it may, and leaves the whole meaning as it is
pub record KeepsReads {X : Type 0} (meaning : X → Meaning) (reads : X → ℕ → ℕ → Result (List ℕ) Fault → X → Type 0) : Type 0 where
  pub means : (s : X) → IsMeaning (meaning s)
  pub answers : {s t : X} {way n : ℕ} {answer : Result (List ℕ) Fault} → reads s way n answer t → CanRead (meaning s) way n answer
  pub stands : {s t : X} {way n : ℕ} {answer : Result (List ℕ) Fault} → reads s way n answer t → meaning t ≡ meaning s

-- the law of a device
pub record KeepsWrites {X : Type 0} (meaning : X → Meaning) (writes : X → ℕ → List ℕ → Result Unit Fault → X → Type 0) (settles : X → Bool → X → Type 0) : Type 0 where
  pub written : {s t : X} {n : ℕ} {block : List ℕ} {answer : Result Unit Fault} → length block ≡ 512 → writes s n block answer t → Written (meaning s) n block answer (meaning t)
  pub settled : {s t : X} {answer : Bool} → settles s answer t → Settled (meaning s) answer (meaning t)

-- a read's answer, by what it returned and what it left in the block area
abbrev pub came : Result Unit Fault → List ℕ → Result (List ℕ) Fault
came (Ok done) area = Ok area
came (Err fault) area = Err fault
