-- The two cards of a box, in memory.
use Rattle.std.specs.Prelude.{◌≡◌, ℕ, replicate, vec_items}
use Rattle.std.specs.List.{flat_map}
use Rattle.device.specs.Memory.{bytes_meaning, memory_meaning}
use Rattle.geometry.specs.Geometry.{total}
use Rattle.tree.specs.Layout.{zero_block}
use Rattle.trial.specs.declared.cards.Cards.{Cards}
use Rattle.trial.specs.declared.cards.Regions.{Regions}

-- zeros in every region: as many data blocks on each card, and the tree blocks that they need
pub record AreBlank (blocks : ℕ) (c : Cards) : Type 0 where
  pub data_1 : vec_items c.data_1 ≡ replicate blocks zero_block
  pub data_2 : vec_items c.data_2 ≡ replicate blocks zero_block
  pub tree_1 : vec_items c.tree_1 ≡ replicate (total blocks) zero_block
  pub tree_2 : vec_items c.tree_2 ≡ replicate (total blocks) zero_block

-- each region is lent with all its bytes
pub record AreLent (c : Cards) (r : Regions) : Type 0 where
  pub data_1 : memory_meaning r.data.0 ≡ bytes_meaning (flat_map (λ block. block) (vec_items c.data_1))
  pub data_2 : memory_meaning r.data.1 ≡ bytes_meaning (flat_map (λ block. block) (vec_items c.data_2))
  pub tree_1 : memory_meaning r.tree.0 ≡ bytes_meaning (flat_map (λ block. block) (vec_items c.tree_1))
  pub tree_2 : memory_meaning r.tree.1 ≡ bytes_meaning (flat_map (λ block. block) (vec_items c.tree_2))
