-- The bottom of bytes lent for writing; what their blocks are holds for bytes lent for reading too.
use Rattle.std.specs.Prelude.{◌≡◌, ℕ, ◌+◌, ◌*◌, ◌/◌, min, Bool, true, List, ◌++◌, take, drop, length, Result, Ok}
use Rattle.std.specs.Borrow.{MutBor}
use Rattle.device.specs.declared.fault.Fault.{Fault}
use Rattle.device.specs.declared.memory.Memory.{Memory}
use Rattle.device.specs.Checks.{GuardedRead, GuardedWrite}
use Rattle.device.specs.Meaning.{Meaning, sure}

-- how many blocks the bytes are
abbrev pub parts : List ℕ → ℕ
parts bytes = min (length bytes / 512) 65536

-- block n of the bytes
unfoldable pub part : List ℕ → ℕ → List ℕ
part bytes n = take 512 (drop (512 * n) bytes)

-- the bytes with block n replaced
unfoldable pub with_part : List ℕ → ℕ → List ℕ → List ℕ
with_part bytes n block = take (512 * n) bytes ++ (block ++ drop (512 * n + 512) bytes)

-- a memory over these lent bytes, as they are
pub record IsOver (lent : MutBor (List ℕ)) (s : Memory) : Type 0 where
  pub same : s.bytes.ghost_name ≡ lent.ghost_name
  pub bytes : s.bytes.now ≡ lent.now

-- one way, sound and clear
abbrev pub bytes_meaning : List ℕ → Meaning
bytes_meaning bytes = record { blocks = parts bytes; ways = 1; cell = λ way n. sure (part bytes n); sound = true; clear = true }

abbrev pub memory_meaning : Memory → Meaning
memory_meaning s = bytes_meaning s.bytes.now

abbrev pub memory_reads : Memory → ℕ → ℕ → Result (List ℕ) Fault → Memory → Type 0
memory_reads s way n answer t =
    GuardedRead (memory_meaning s) s way n answer t ((answer ≡ Ok (part s.bytes.now n)) × (t ≡ s))

-- the same lent bytes, and in them these
pub record HasBytes (s : Memory) (new : List ℕ) (t : Memory) : Type 0 where
  pub lent : t.bytes.ghost_name ≡ s.bytes.ghost_name
  pub bytes : t.bytes.now ≡ new

abbrev pub memory_writes : Memory → ℕ → List ℕ → Result Unit Fault → Memory → Type 0
memory_writes s n block answer t =
    GuardedWrite (memory_meaning s) s n answer t ((answer ≡ Ok tt) × HasBytes s (with_part s.bytes.now n block) t)

abbrev pub memory_settles : Memory → Bool → Memory → Type 0
memory_settles s answer t = (answer ≡ true) × (t ≡ s)
