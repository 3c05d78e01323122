-- A key of hexadecimal digits, as the crate hex reads it.
use Rattle.std.proofs.Common.{◌≡◌, ℕ, ◌+◌, ◌*◌, ◌/◌, ◌%◌, Bool, true, false, cond, eqb, ltb, List, [], ◌∷◌, length, Some, None, Ok, Err, MatchResult, Result, inl, inr, refl, ap, ◌∙◌, arith}
use Rattle.std.proofs.lemmas.Bool.Decides.{nat_tests}
use Rattle.std.proofs.lemmas.Bool.{cases_eq, eqb-true, eqb-false, ne_eqb}
use Rattle.std.specs.Char.{digit_value}
use Rattle.std.specs.Result.{result_map_both}
use Rattle.hex.specs.Hex.{decode_pairs, decode_sized, hex_digit_value, pair_value}
use Rattle.hex.specs.declared.error.FromHexError.{FromHexError}
use Rattle.hex.specs.declared.error.FromHexError.TheVariants.{InvalidHexCharacter, OddLength, InvalidStringLength, OutOfMemory}
use Rattle.hex.proofs.Pairs.{cons_byte, decode_pairs-ok_pair, decode_pairs-err_pair, decode_sized-pairs}
use Rattle.subscriber.specs.Items.{all_hex, hex_bytes, key_in}
use Rattle.sheet_error.specs.declared.cause.Cause.{Cause}
use Rattle.sheet_error.specs.declared.cause.Cause.TheVariants.{KeyLength, KeyDigit}

-- what a refusal of the crate hex is here
abbrev pub cause_of : FromHexError → Cause
cause_of (InvalidHexCharacter c i) = KeyDigit
cause_of OddLength = KeyLength
cause_of InvalidStringLength = KeyLength
cause_of OutOfMemory = KeyLength

-- a digit, as the crate hex reads it
pub digit_same : (c : ℕ) → hex_digit_value c ≡ cond (ltb (digit_value c) 16) (Some (digit_value c)) None
digit_same c = grind (arith, nat_tests)

-- the bytes are those of the digits, or some byte is no digit
abbrev Reads : List ℕ → Result (List ℕ) FromHexError → Type 0
Reads w r = MatchResult r (λ bytes. (all_hex w ≡ true) × (hex_bytes w ≡ bytes)) (λ e. (all_hex w ≡ false) × (cause_of e ≡ KeyDigit))

reads_cons : (a b : ℕ) (cs : List ℕ) (r : Result (List ℕ) FromHexError) → ltb (digit_value a) 16 ≡ true → ltb (digit_value b) 16 ≡ true → Reads cs r → Reads (a ∷ b ∷ cs) (cons_byte (digit_value a * 16 + digit_value b) r)
reads_cons a b cs (Ok bytes) p q h = (rw (p, q) h.0, ap (λ xs. (digit_value a * 16 + digit_value b) ∷ xs) h.1)
reads_cons a b cs (Err e) p q h = (rw (p, q) h.0, h.1)

reads_pair : (a b i : ℕ) (cs : List ℕ) (p q : Bool) → ltb (digit_value a) 16 ≡ p → ltb (digit_value b) 16 ≡ q → Reads cs (decode_pairs (i + 2) cs) → Reads (a ∷ b ∷ cs) (decode_pairs i (a ∷ b ∷ cs))
reads_pair a b i cs true true p q on =
    let pair : pair_value a b i ≡ Ok (digit_value a * 16 + digit_value b) = rw (digit_same a, digit_same b, p, q) refl in
    rw (decode_pairs-ok_pair i a b _ cs pair) (reads_cons a b cs (decode_pairs (i + 2) cs) p q on)
reads_pair a b i cs true false p q on =
    let pair : pair_value a b i ≡ Err (InvalidHexCharacter b (i + 1)) = rw (digit_same a, digit_same b, p, q) refl in
    rw (decode_pairs-err_pair i a b _ cs pair) (rw (p, q) refl, refl)
reads_pair a b i cs false q p _ on =
    let pair : pair_value a b i ≡ Err (InvalidHexCharacter a i) = rw (digit_same a, p) refl in
    rw (decode_pairs-err_pair i a b _ cs pair) (rw p refl, refl)

-- what the crate hex reads from pairs of digits
pub reads_pairs : (i : ℕ) (w : List ℕ) → length w % 2 ≡ 0 → Reads w (decode_pairs i w)
unfolding decode_pairs
reads_pairs i [] even = (refl, refl)
reads_pairs i (a ∷ []) even = absurd (omega arith)
reads_pairs i (a ∷ b ∷ cs) even = reads_pair a b i cs _ _ refl refl (reads_pairs (i + 2) cs (omega arith))

key_whole : (w : List ℕ) (r : Result (List ℕ) FromHexError) → length w ≡ 32 → Reads w r → key_in w ≡ result_map_both (λ key. key) cause_of r
unfolding key_in
key_whole w (Ok bytes) long h = rw (long, h.0, h.1) refl
key_whole w (Err e) long h = rw (long, h.0, h.1) refl

key_short : (w : List ℕ) (p q : Bool) → eqb (length w % 2) 1 ≡ p → eqb (length w / 2) 16 ≡ q → (length w ≡ 32 → ⊥) → key_in w ≡ result_map_both (λ key. key) cause_of (decode_sized w 16)
unfolding key_in
key_short w true q p _ other = rw (ne_eqb _ 32 other, p) refl
key_short w false false p q other = rw (ne_eqb _ 32 other, p, q) refl
key_short w false true p q other = absurd (other (omega (arith, eqb-false _ _ p, eqb-true _ _ q)))

-- a key as the crate hex reads it
pub key_reads : (w : List ℕ) → key_in w ≡ result_map_both (λ key. key) cause_of (decode_sized w 16)
key_reads w =
    elim (cases_eq (length w) 32) [
      | inl long ↦ key_whole w _ long (reads_pairs 0 w (omega arith)) ∙ rw (decode_sized-pairs w 16 (omega arith) (omega arith)) refl
      | inr other ↦ key_short w _ _ refl refl other
    ]
