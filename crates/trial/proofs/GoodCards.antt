-- Blank cards in memory are good ones, and what is put in of a sheet is its volume.
use Rattle.std.proofs.Common.{◌≡◌, ℕ, zero, suc, ◌-◌, ◌*◌, ◌≤◌, List, ◌++◌, map, length, take, replicate, refl, sym, ap, ◌∙◌, subst, arith, length-append}
use Rattle.std.specs.List.{flat_map}
use Rattle.std.specs.Prelude.{vec_items}
use lib.ListN.{length-map}
use Rattle.std.proofs.lemmas.List.{length-replicate, take_at}
use Rattle.device.specs.Meaning.{Meaning}
use Rattle.device.specs.Memory.{bytes_meaning, memory_meaning}
use Rattle.geometry.specs.Geometry.{total}
use Rattle.geometry.proofs.Numbers.{total_most}
use Rattle.label.specs.Label.{volume_of}
use Rattle.sim.specs.Block.{sim_block}
use Rattle.sim.specs.declared.Sim.{Sim}
use Rattle.tree.specs.Layout.{zero_block}
use Rattle.trial.specs.declared.cards.Cards.{Cards}
use Rattle.trial.specs.declared.cards.Regions.{Regions}
use Rattle.trial.specs.Cards.{AreBlank, AreLent}
use Rattle.trial.specs.Good.{GoodCard, filled}

zero_long : length zero_block ≡ 512
unfolding zero_block
zero_long = length-replicate {A = ℕ} 512 0

bytes_of_zeros : (n : ℕ) → length (flat_map (λ block. block) (replicate n zero_block)) ≡ 512 * n
bytes_of_zeros zero = refl
bytes_of_zeros (suc n) = omega (arith, length-append zero_block (flat_map (λ block. block) (replicate n zero_block)), zero_long, bytes_of_zeros n)

-- a region of so many blocks of zeros
good_card : (m : Meaning) (blocks : List (List ℕ)) (n : ℕ) → n ≤ 65536 → m ≡ bytes_meaning (flat_map (λ block. block) blocks) → blocks ≡ replicate n zero_block → GoodCard m n
good_card m blocks n few means zeros =
    let long : length (flat_map (λ block. block) blocks) ≡ 512 * n = ap (λ b. length (flat_map (λ block. block) b)) zeros ∙ bytes_of_zeros n in
    subst (λ x. GoodCard x n) (sym means) (record { count = omega (arith, long, few); one_way = refl; sound = refl })

-- the regions of blank cards, as they are lent
module _ (c : Cards) (r : Regions) (n : ℕ) (least : 1 ≤ n) (most : n ≤ 4096) (blank : AreBlank n c) (lent : AreLent c r) where
  pub good_data : GoodCard (memory_meaning r.data.0) n × GoodCard (memory_meaning r.data.1) n
  good_data =
      (good_card _ (vec_items c.data_1) n (omega (arith, most)) lent.data_1 blank.data_1, good_card _ (vec_items c.data_2) n (omega (arith, most)) lent.data_2 blank.data_2)

  pub good_trees : GoodCard (memory_meaning r.tree.0) (total n) × GoodCard (memory_meaning r.tree.1) (total n)
  good_trees =
      let few = total_most n least most in (
        good_card _ (vec_items c.tree_1) (total n) (omega (arith, few)) lent.tree_1 blank.tree_1,
        good_card _ (vec_items c.tree_2) (total n) (omega (arith, few)) lent.tree_2 blank.tree_2,
      )

-- what lies at the front of a tray's volume
pub sims_first : (sims : List Sim) (blocks : ℕ) (n : ℕ) → n ≡ length sims → take n (volume_of sims blocks) ≡ map sim_block sims
sims_first sims blocks n all = take_at (map sim_block sims) (replicate (blocks - length sims) zero_block) n (length-map sims sim_block ∙ sym all)

-- and what it is once it is put in
pub filled_volume : (sims : List Sim) (blocks : ℕ) → filled (map sim_block sims) blocks ≡ volume_of sims blocks
filled_volume sims blocks = ap (λ k. map sim_block sims ++ replicate (blocks - k) zero_block) (length-map sims sim_block)
