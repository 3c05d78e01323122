-- The volume beside a box, which has its slip out where a script asks for one.
use Rattle.std.specs.Prelude.{◌≡◌, ℕ, true, Option, None, Some, List, [], ◌∷◌}
use Rattle.device.specs.Meaning.{Meaning}
use Rattle.volume.specs.declared.slip.Slip.{Slip}
use Rattle.volume.specs.Promise.{AreSound, Formattable}
use Rattle.volume.specs.Replay.{out_of}
use Rattle.volume.specs.Slips.{one_of, slip_with, slips_of}
use Rattle.volume.specs.View.{View}

-- one sound block
pub record IsBlock (m : Meaning) : Type 0 where
  pub one : m.blocks ≡ 1
  pub sound : m.sound ≡ true

-- a closed volume whose devices may be formatted, and are sound
pub record Stands (v : View) : Type 0 where
  pub formattable : Formattable v
  pub sound : AreSound v

-- this slip is out of the volume
abbrev pub HasOut : View → Slip → Type 0
HasOut v s = (number : ℕ) → one_of number (Some s) ≡ out_of number v

-- the slips in the pool are those that the volume has out
abbrev pub Lent : View → List (Option Slip) → Type 0
Lent v places = (number : ℕ) → slips_of number places ≡ out_of number v

-- the pool with which a box begins: the stranger's slip lies in place 0, if one is asked for
abbrev pub pool_of : Option ℕ → List (Option Slip)
pool_of None = None ∷ None ∷ None ∷ None ∷ []
pool_of (Some number) = Some (slip_with number) ∷ None ∷ None ∷ None ∷ []
