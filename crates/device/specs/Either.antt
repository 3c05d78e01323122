-- One of two sources or devices: it means what the one inside means, and a call is a call of that one.
use Rattle.std.specs.Prelude.{ℕ, Bool, List, Result}
use Rattle.device.specs.declared.device.Device
use Rattle.device.specs.declared.either.Either.{Either}
use Rattle.device.specs.declared.either.Either.TheVariants.{First, Second}
use Rattle.device.specs.declared.fault.Fault.{Fault}
use Rattle.device.specs.declared.source.Source
use Rattle.device.specs.Meaning.{Meaning}

module _ {A B : Type 0} (g : Source.Ghosts A) (h : Source.Ghosts B) where
  abbrev pub either_meaning : Either A B → Meaning
  either_meaning (First a) = g.meaning a
  either_meaning (Second b) = h.meaning b

  abbrev pub either_reads : Either A B → ℕ → ℕ → Result (List ℕ) Fault → Either A B → Type 0
  either_reads (First a) way n answer (First t) = g.reads a way n answer t
  either_reads (Second b) way n answer (Second t) = h.reads b way n answer t
  either_reads _ way n answer _ = ⊥

module _ {A B : Type 0} (g : Device.Ghosts A) (h : Device.Ghosts B) where
  abbrev pub either_writes : Either A B → ℕ → List ℕ → Result Unit Fault → Either A B → Type 0
  either_writes (First a) n block answer (First t) = g.writes a n block answer t
  either_writes (Second b) n block answer (Second t) = h.writes b n block answer t
  either_writes _ n block answer _ = ⊥

  abbrev pub either_settles : Either A B → Bool → Either A B → Type 0
  either_settles (First a) answer (First t) = g.settles a answer t
  either_settles (Second b) answer (Second t) = h.settles b answer t
  either_settles _ answer _ = ⊥
