-- Devices on which a trial goes through.
use Rattle.std.specs.Prelude.{◌≡◌, ℕ, ◌-◌, true, List, ◌++◌, length, replicate}
use Rattle.device.specs.Meaning.{Meaning}
use Rattle.tree.specs.Layout.{root_of, zero_block}
use Rattle.volume.specs.declared.register.Register.{Register}
use Rattle.volume.specs.Parts.{Holds}
use Rattle.volume.specs.Promise.{AreSound, Formattable}
use Rattle.volume.specs.View.{Base, View}
use Rattle.trial.specs.Played.{Trial}

-- a sound card of so many blocks, in one way
pub record GoodCard (m : Meaning) (blocks : ℕ) : Type 0 where
  pub count : m.blocks ≡ blocks
  pub one_way : m.ways ≡ 1
  pub sound : m.sound ≡ true

-- a closed volume over sound devices, that may be formatted with so many blocks
pub record GoodVolume (v : View) (blocks : ℕ) : Type 0 where
  pub formattable : Formattable v
  pub sound : AreSound v
  pub count : v.store.blocks ≡ blocks

-- these blocks, and zeros after them
abbrev pub filled : List (List ℕ) → ℕ → List (List ℕ)
filled sims blocks = sims ++ replicate (blocks - length sims) zero_block

-- What came of a trial on good devices: every call was accepted, and what was read and entered is what was put in.
module _ {D T H : Type 0} (b : Base D T H) where
  pub record TakenThrough (number : ℕ) (h : H) (sims : List (List ℕ)) (blocks : ℕ) (read : List (List ℕ)) (register : Register) : Type 0 where
    pub trial : Trial b number h sims blocks read register
    pub read_back : read ≡ filled sims blocks
    pub entered : Holds register blocks b.hash.KIND (root_of (b.hash.image h) (filled sims blocks))
