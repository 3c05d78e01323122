-- The bottom of bytes lent for reading: it means what a memory of these bytes means.
use Rattle.std.specs.Prelude.{◌≡◌, ℕ, List, Result, Ok}
use Rattle.device.specs.declared.fault.Fault.{Fault}
use Rattle.device.specs.declared.sealed.Sealed.{Sealed}
use Rattle.device.specs.Checks.{GuardedRead}
use Rattle.device.specs.Meaning.{Meaning}
use Rattle.device.specs.Memory.{bytes_meaning, part}

abbrev pub sealed_bytes : Sealed → List ℕ
sealed_bytes s = s.bytes.now

abbrev pub sealed_meaning : Sealed → Meaning
sealed_meaning s = bytes_meaning (sealed_bytes s)

abbrev pub sealed_reads : Sealed → ℕ → ℕ → Result (List ℕ) Fault → Sealed → Type 0
sealed_reads s way n answer t =
    GuardedRead (sealed_meaning s) s way n answer t ((answer ≡ Ok (part (sealed_bytes s) n)) × (t ≡ s))
