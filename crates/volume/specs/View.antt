-- What a volume stands on, and what it is to whoever calls it.
use Rattle.std.specs.Prelude.{◌≡◌, ℕ, Bool, Option, Some, None, List}
use Rattle.device.specs.declared.device.Device
use Rattle.device.specs.declared.source.Source
use Rattle.device.specs.Meaning.{Meaning}
use Rattle.digest.specs.declared.hash.Hash
use Rattle.volume.specs.declared.present.Present as opened
use Rattle.volume.specs.declared.volume.Volume.{Volume}

-- what the two devices and the hash of a volume say of themselves: what they mean, and which steps their calls make
pub record Base (D T H : Type 0) : Type 1 where
  pub store : Source.Ghosts D
  pub tree : Source.Ghosts T
  pub store_device : Device.Ghosts D
  pub tree_device : Device.Ghosts T
  pub hash : Hash.Ghosts H

abbrev pub base : {D T H : Type 0} → Source.Ghosts D → Source.Ghosts T → Device.Ghosts D → Device.Ghosts T → Hash.Ghosts H → Base D T H
base g h d e hash = record { store = g; tree = h; store_device = d; tree_device = e; hash = hash }

-- an open volume: how many blocks it has, its root as of now, and whether a slip is out
pub record Open : Type 0 where
  pub blocks : ℕ
  pub root : List ℕ
  pub slip_out : Bool

abbrev pub opened_as : opened.Present → Open
opened_as p = record { blocks = p.geometry.blocks; root = p.root; slip_out = p.slip_out }

abbrev pub open_of : Option opened.Present → Option Open
open_of None = None
open_of (Some p) = Some (opened_as p)

-- `store` is what the data device means, `tree` what the tree device means; `present` is none where the volume is closed
pub record View : Type 0 where
  pub number : ℕ
  pub image : List ℕ → List ℕ
  pub kind : ℕ
  pub present : Option Open
  pub store : Meaning
  pub tree : Meaning

-- what a volume is
abbrev pub view : {D T H : Type 0} → Base D T H → Volume D T H → View
view b v =
    record { number = v.number; image = b.hash.image v.hash; kind = b.hash.KIND; present = open_of v.present; store = b.store.meaning v.store; tree = b.tree.meaning v.tree }

-- a closed volume over these devices, under this hash and with this number
pub record IsMade {D T H : Type 0} (v : Volume D T H) (data_device : D) (tree_device : T) (h : H) (number : ℕ) : Type 0 where
  pub over_data : v.store ≡ data_device
  pub over_tree : v.tree ≡ tree_device
  pub under : v.hash ≡ h
  pub numbered : v.number ≡ number
  pub closed : open_of v.present ≡ None
