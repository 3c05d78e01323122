-- What a write does to a cell, whatever the layer.
use Rattle.std.specs.Prelude.{◌≡◌, ℕ, nat_eq, List, Result, Ok, Err, refl}
use Rattle.std.proofs.lemmas.Bool.{cond_both, eqb-true}
use Rattle.device.specs.declared.fault.Fault.{Fault}
use Rattle.device.specs.Faults.{passed_up}
use Rattle.device.specs.Meaning.{Cell, IsSure, loose, sure, after_write}

-- any cell but a sure one of the block written stands, whatever the answer
pub others_stand : (answer : Result Unit Fault) (n k : ℕ) (block : List ℕ) (c : Cell) → (k ≡ n → IsSure c → ⊥) → c ≡ after_write answer n block k c
others_stand (Ok done) n k block (sure bytes) not_sure =
    cond_both (nat_eq k n) (sure block) (sure bytes) (λ (c : Cell). sure bytes ≡ c) (λ e. absurd (not_sure (eqb-true k n e) tt)) (λ e. refl)
others_stand (Ok done) n k block loose not_sure = cond_both (nat_eq k n) loose loose (λ (c : Cell). loose ≡ c) (λ e. refl) (λ e. refl)
others_stand (Err fault) n k block c not_sure = refl

-- an answer that is passed up says the same of each cell
pub after_passed : (answer : Result Unit Fault) (n k : ℕ) (block : List ℕ) (c : Cell) → after_write answer n block k c ≡ after_write (passed_up answer) n block k c
after_passed (Ok done) n k block c = refl
after_passed (Err fault) n k block c = refl
