-- Blocks put in one after the other, from some block on.
use Rattle.std.proofs.Common.{◌≡◌, ℕ, suc, ◌≤◌, List, [], ◌∷◌, ◌++◌, length, drop, set, refl, ap, ◌∙◌, arith}

abbrev pub put_in : List (List ℕ) → ℕ → List (List ℕ) → List (List ℕ)
put_in contents k [] = contents
put_in contents k (block ∷ blocks) = put_in (set contents k block) (suc k) blocks

-- past the first block that one stands
put_after : (blocks : List (List ℕ)) (first : List ℕ) (contents : List (List ℕ)) (k : ℕ) → put_in (first ∷ contents) (suc k) blocks ≡ first ∷ put_in contents k blocks
put_after [] first contents k = refl
put_after (block ∷ blocks) first contents k = put_after blocks first (set contents k block) (suc k)

-- from the first block on, they come before what stands
pub put_from_first : (blocks contents : List (List ℕ)) → length blocks ≤ length contents → put_in contents 0 blocks ≡ blocks ++ drop (length blocks) contents
put_from_first [] contents fits = refl
put_from_first (block ∷ blocks) [] fits = absurd (omega (arith, fits))
put_from_first (block ∷ blocks) (old ∷ contents) fits =
    put_after blocks block contents 0 ∙ ap (λ l. block ∷ l) (put_from_first blocks contents (omega (arith, fits)))
