-- What a device holds.
use Rattle.std.specs.Prelude.{◌≡◌, ℕ, ◌<◌, List, [], length, slice_index_or}
use Rattle.device.specs.Meaning.{Exists, Meaning, sure}

-- these blocks lie on the device from block 0 on: every sure cell of theirs holds its block
abbrev pub Lie : Meaning → List (List ℕ) → Type 0
Lie m blocks = (way k : ℕ) (bytes : List ℕ) → Exists m way k → m.cell way k ≡ sure bytes → k < length blocks → bytes ≡ slice_index_or blocks k []
