-- The whole promise: over every pile of offsets, mirrors and caches that stands on two devices, and under every hash.
use Rattle.std.specs.Prelude.{ℕ, Bool, List, Result}
use Rattle.device.specs.declared.device.Device
use Rattle.device.specs.declared.fault.Fault.{Fault}
use Rattle.device.specs.declared.source.Source
use Rattle.device.specs.Meaning.{Meaning}
use Rattle.device.specs.Piles.{Keeps, SaysDevice, SaysSource, Shape, pile_device, pile_source}
use Rattle.digest.specs.declared.hash.Hash
use Rattle.volume.specs.Promise.{LooksExactly, Promise}
use Rattle.volume.specs.View.{base}

module _ {X Y Z : Type 0} (g : Source.Ghosts X) (h : Source.Ghosts Y) (d : Device.Ghosts X) (e : Device.Ghosts Y) (hash : Hash.Ghosts Z) where
  -- the data device is a pile of shape p, the tree device one of shape q
  pub record OverPiles (p q : Shape) : Type 0 where
    -- the piles keep to what a device means
    pub store_keeps : Keeps (pile_source g h p) (pile_device g h d e p)
    pub tree_keeps : Keeps (pile_source g h q) (pile_device g h d e q)
    -- so a volume over them keeps its promise
    pub promise : Promise (base (pile_source g h p) (pile_source g h q) (pile_device g h d e p) (pile_device g h d e q) hash)
    -- and so does look
    pub looks : (key : Z) → LooksExactly (pile_source g h p) (pile_source g h q) (hash.image key) hash.KIND

  abbrev pub WholePromise : Type 0
  WholePromise = (p q : Shape) → OverPiles p q

-- what a layer means by its shape is what its impls say
pub record LayerSays {S : Type 0} (g : Source.Ghosts S) (d : Device.Ghosts S) (meaning : S → Meaning) (reads : S → ℕ → ℕ → Result (List ℕ) Fault → S → Type 0)
    (writes : S → ℕ → List ℕ → Result Unit Fault → S → Type 0) (settles : S → Bool → S → Type 0) : Type 0 where
  pub source : SaysSource meaning reads g
  pub device : SaysDevice writes settles d
