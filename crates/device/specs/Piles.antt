-- Offset, mirror and cache, piled in any order over two devices.
use Rattle.std.specs.Prelude.{◌≡◌, ◌↔◌, ℕ, List, Bool, Result}
use Rattle.device.specs.declared.cache.Cache.{Cache}
use Rattle.device.specs.declared.device.Device
use Rattle.device.specs.declared.fault.Fault.{Fault}
use Rattle.device.specs.declared.mirror.Mirror.{Mirror}
use Rattle.device.specs.declared.offset.Offset.{Offset}
use Rattle.device.specs.declared.source.Source
use Rattle.device.specs.Cache.{cache_device, cache_source}
use Rattle.device.specs.Meaning.{KeepsReads, KeepsWrites, Meaning}
use Rattle.device.specs.Mirror.{mirror_device, mirror_source}
use Rattle.device.specs.Offset.{offset_device, offset_source}

-- how the layers are piled: what stands at the bottom, and which layer on which
pub data Shape : Type 0 where
  one : Shape
  other : Shape
  offset : Shape → Shape
  mirror : Shape → Shape → Shape
  cache : Shape → Shape

-- what a source and a device mean, and that they keep to it
pub record Keeps {X : Type 0} (g : Source.Ghosts X) (d : Device.Ghosts X) : Type 0 where
  pub reads : KeepsReads g.meaning g.reads
  pub writes : KeepsWrites g.meaning d.writes d.settles

module _ (X Y : Type 0) where
  -- the states of a pile: each layer holds what is below it
  abbrev pub State : Shape → Type 0
  State one = X
  State other = Y
  State (offset p) = Offset (State p)
  State (mirror p q) = Mirror (State p) (State q)
  State (cache p) = Cache (State p)

module _ {X Y : Type 0} (g : Source.Ghosts X) (h : Source.Ghosts Y) where
  -- what a pile means as a source
  abbrev pub pile_source : (p : Shape) → Source.Ghosts (State X Y p)
  pile_source one = g
  pile_source other = h
  pile_source (offset p) = offset_source (pile_source p)
  pile_source (mirror p q) = mirror_source (pile_source p) (pile_source q)
  pile_source (cache p) = cache_source (pile_source p)

  module _ (d : Device.Ghosts X) (e : Device.Ghosts Y) where
    -- and as a device
    abbrev pub pile_device : (p : Shape) → Device.Ghosts (State X Y p)
    pile_device one = d
    pile_device other = e
    pile_device (offset p) = offset_device (pile_source p) (pile_device p)
    pile_device (mirror p q) = mirror_device (pile_source p) (pile_source q) (pile_device p) (pile_device q)
    pile_device (cache p) = cache_device (pile_source p) (pile_device p)

    -- every pile keeps to what a source and a device mean
    abbrev pub PilesKeep : Type 0
    PilesKeep = (p : Shape) → Keeps (pile_source p) (pile_device p)

-- these say the same of a source as g
pub record SaysSource {X : Type 0} (meaning : X → Meaning) (reads : X → ℕ → ℕ → Result (List ℕ) Fault → X → Type 0) (g : Source.Ghosts X) : Type 0 where
  pub same_meaning : (s : X) → meaning s ≡ g.meaning s
  pub same_reads : (s t : X) (way n : ℕ) (answer : Result (List ℕ) Fault) → reads s way n answer t ↔ g.reads s way n answer t

-- and these the same of a device as d
pub record SaysDevice {X : Type 0} (writes : X → ℕ → List ℕ → Result Unit Fault → X → Type 0) (settles : X → Bool → X → Type 0) (d : Device.Ghosts X) : Type 0 where
  pub same_writes : (s t : X) (n : ℕ) (block : List ℕ) (answer : Result Unit Fault) → writes s n block answer t ↔ d.writes s n block answer t
  pub same_settles : (s t : X) (answer : Bool) → settles s answer t ↔ d.settles s answer t
