-- The digits of bytes, as the crate `hex` writes them.
use Rattle.std.proofs.Common.{◌≡◌, ℕ, zero, suc, Bool, true, ◌&&◌, eqb, ◌/◌, ◌%◌, ◌<◌, List, [], ◌∷◌, slice_index, refl, arith}
use Rattle.std.proofs.lemmas.Bool.Decides.{Decides-below_and, Decides-eqb}
use Rattle.hex.specs.Hex.{lower_digits, encode_with}
use Rattle.label.specs.Report.{hex, hex_digit}

-- the two tables of digits agree below n
abbrev agree : ℕ → Bool
agree zero = true
agree (suc n) = eqb (slice_index lower_digits n) (hex_digit n) && agree n

digit_is : (n : ℕ) → n < 16 → slice_index lower_digits n ≡ hex_digit n
digit_is =
    (Decides-below_and (λ n. eqb (slice_index lower_digits n) (hex_digit n)) (λ n. slice_index lower_digits n ≡ hex_digit n) agree (λ n. Decides-eqb _ _) refl (λ n. refl) 16).0 refl

pub hex_is : (bytes : List ℕ) → ((i : ℕ) → slice_index bytes i < 256) → encode_with lower_digits bytes ≡ hex bytes
unfolding encode_with
hex_is [] small = refl
hex_is (b ∷ bytes) small =
    let byte : b < 256 = small 0 in
    (λ k. digit_is (b / 16) (omega arith) k ∷ digit_is (b % 16) (omega arith) k ∷ hex_is bytes (λ i. small (suc i)) k)
