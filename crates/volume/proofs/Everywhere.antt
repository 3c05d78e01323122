-- The promise over every pile, under every hash.
use Rattle.std.proofs.Common.{◌≡◌, ℕ, List, length}
use Rattle.device.proofs.EveryPile.{piles_keep}
use Rattle.device.specs.declared.device.Device
use Rattle.device.specs.declared.source.Source
use Rattle.device.specs.Piles.{Keeps, pile_device, pile_source}
use Rattle.digest.specs.declared.hash.Hash
use Rattle.volume.specs.EveryPile.{WholePromise}
use Rattle.volume.specs.View.{base}
use Rattle.volume.proofs.Promised.{looks, promise}

pub everywhere : {X Y Z : Type 0} (g : Source.Ghosts X) (h : Source.Ghosts Y) (d : Device.Ghosts X) (e : Device.Ghosts Y) (hash : Hash.Ghosts Z) → Keeps g d → Keeps h e
    → ((key : Z) (block : List ℕ) → length (hash.image key block) ≡ 32) → WholePromise g h d e hash
everywhere g h d e hash first second wide p q =
    let store = piles_keep g h d e first second p in
    let tree = piles_keep g h d e first second q in
    record {
      store_keeps = store;
      tree_keeps = tree;
      promise = promise (base (pile_source g h p) (pile_source g h q) (pile_device g h d e p) (pile_device g h d e q) hash) (record { store = store; tree = tree; wide = wide });
      looks = λ key. looks (pile_source g h p) (pile_source g h q) (hash.image key) hash.KIND store.reads tree.reads (wide key);
    }
