-- What the trusted register holds.
use Rattle.std.specs.Prelude.{◌≡◌, ℕ, ◌≤◌, List}
use Rattle.volume.specs.declared.register.Register.{Register}

-- the parts of a register
pub record Holds (r : Register) (n k : ℕ) (root_bytes : List ℕ) : Type 0 where
  pub blocks : r.blocks ≡ n
  pub kind : r.kind ≡ k
  pub root : r.root ≡ root_bytes

-- what a register may be made from: 1 to 4096 blocks, a kind from 1 to 255
pub record MayHold (blocks kind : ℕ) : Type 0 where
  pub least : 1 ≤ blocks
  pub most : blocks ≤ 4096
  pub kind_least : 1 ≤ kind
  pub kind_most : kind ≤ 255
