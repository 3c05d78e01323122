-- Blocks written in turn, and more after them.
use Rattle.std.proofs.Common.{◌≡◌, ℕ, suc, ◌+◌, List, [], ◌∷◌, ◌++◌, length, Result, refl, subst, arith}
use Rattle.device.specs.declared.device.Device
use Rattle.device.specs.declared.fault.Fault.{Fault}
use Rattle.volume.specs.Writes.{InTurn}

module _ {D : Type 0} (d : Device.Ghosts D) where
  -- some blocks, and then others
  pub in_turn_then : (at : ℕ) (blocks others : List (List ℕ)) (s t u : D) → InTurn d at blocks s t → InTurn d (at + length blocks) others t u → InTurn d at (blocks ++ others) s u
  in_turn_then at [] others s t u stands after =
      let here : at + 0 ≡ at = omega arith in subst (λ v. InTurn d at others v u) stands (subst (λ n. InTurn d n others t u) here after)
  in_turn_then at (block ∷ blocks) others s t u turn after =
      let here : at + suc (length blocks) ≡ suc at + length blocks = omega arith in
      record { answer = turn.answer; between = turn.between; step = turn.step; others = in_turn_then (suc at) blocks others turn.between t u turn.others (subst (λ n. InTurn d n others t u) here after) }

  -- one more block
  pub in_turn_more : (at n : ℕ) (blocks : List (List ℕ)) (block : List ℕ) (answer : Result Unit Fault) (s t u : D) → InTurn d at blocks s t → n ≡ at + length blocks → d.writes t n block answer u
      → InTurn d at (blocks ++ block ∷ []) s u
  in_turn_more at n blocks block answer s t u turn here w =
      in_turn_then at blocks (block ∷ []) s t u turn (record { answer = answer; between = u; step = subst (λ m. d.writes t m block answer u) here w; others = refl })
