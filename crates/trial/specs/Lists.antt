-- The lists of calls that a trial carries out, and what became of them.
use Rattle.std.specs.Prelude.{◌≡◌, ℕ, zero, suc, Some, List, [], ◌∷◌, length, replicate, Ok}
use Rattle.volume.specs.declared.entry.Call.{Call}
use Rattle.volume.specs.declared.entry.Call.TheVariants.{Open, Begin, Read, Write, Keep, Shut}
use Rattle.volume.specs.declared.entry.Entry.{Entry}

-- what an entry asks for: its call, the bytes of its block area, and the length of its record area
abbrev pub asked : Entry → Call × List ℕ × ℕ
asked e = (e.call, e.block.items, length e.log.items)

abbrev pub bare : Call → Call × List ℕ × ℕ
bare call = (call, [], 0)

-- a write of each of these blocks, from block k on, with the slip at place 0; then a keep, and a shut
abbrev pub writes_from : ℕ → List (List ℕ) → List (Call × List ℕ × ℕ)
writes_from k [] = bare (Keep 0) ∷ bare Shut ∷ []
writes_from k (block ∷ blocks) = (Write 0 k, block, 2048) ∷ writes_from (suc k) blocks

-- these blocks are put in from block 0 on, and kept
abbrev pub write_list : List (List ℕ) → List (Call × List ℕ × ℕ)
write_list blocks = bare Open ∷ bare (Begin 0) ∷ writes_from 0 blocks

-- a read of each of so many blocks, from block k on, into an area of zeros; then a shut
abbrev pub reads_from : ℕ → ℕ → List (Call × List ℕ × ℕ)
reads_from k zero = bare Shut ∷ []
reads_from k (suc n) = (Read k, replicate 512 0, 2048) ∷ reads_from (suc k) n

-- every block of a volume of so many is read
abbrev pub read_list : ℕ → List (Call × List ℕ × ℕ)
read_list n = bare Open ∷ reads_from 0 n

-- every call of a list was made and accepted
abbrev pub AllAccepted : List Entry → Type 0
AllAccepted [] = Unit {0}
AllAccepted (e ∷ es) = (e.answer ≡ Some (Ok tt)) × AllAccepted es

abbrev pub with_block : Call → List ℕ → List (List ℕ) → List (List ℕ)
with_block (Read n) block others = block ∷ others
with_block _ block others = others

-- the blocks that the reads of a list left in their areas, in the order of the list
abbrev pub blocks_read : List Entry → List (List ℕ)
blocks_read [] = []
blocks_read (e ∷ es) = with_block e.call e.block.items (blocks_read es)

-- the area of a read is as long as a block
abbrev pub whole_area : Call → List ℕ → Type 0
whole_area (Read n) block = length block ≡ 512
whole_area _ block = Unit {0}

abbrev pub AreasWhole : List Entry → Type 0
AreasWhole [] = Unit {0}
AreasWhole (e ∷ es) = whole_area e.call e.block.items × AreasWhole es
