-- What a text writes, as the crate `hex` reads it.
use Rattle.std.proofs.Common.{MatchResult, ◌≡◌, ◌==◌, ℕ, zero, suc, ◌+◌, ◌*◌, ◌/◌, ◌%◌, ◌&&◌, inl, inr, List, [], ◌∷◌, length, Some, None, is_some, Ok, Err, Option, Result, sym, refl, ap, ◌∙◌, arith}
use Rattle.std.proofs.lemmas.Bool.{cases_eq, eq-eqb, ne_eqb}
use Rattle.std.proofs.lemmas.Bool.Decides.{nat_tests}
use Rattle.std.specs.Char.{is_ascii_hexdigit}
use Rattle.std.specs.List.{list_all}
use Rattle.std.specs.Result.{result_ok}
use Rattle.std.specs.Simd.{first_chunks}
use Rattle.hex.specs.Hex.{hex_digit_value, digit_or_error, pair_value, decode_pairs, decode_sized, ◌>>=◌}
use Rattle.hex.specs.declared.error.FromHexError.{FromHexError}
use Rattle.vectors.specs.Hex.{hex_digit, hex_joined, before, hex_pairs, unhex}

-- a digit has one value (the reader of a sheet has the like for its own words; neither crate stands on the other)
digit_is : (c : ℕ) → hex_digit c ≡ hex_digit_value c
digit_is c = grind (arith, nat_tests)

-- a byte, from the values of its two digits
byte_is : (a b i : ℕ) (h l : Option ℕ) → result_ok (digit_or_error a i h >>= (λ x. digit_or_error b (i + 1) l >>= (λ y. Ok (x * 16 + y)))) ≡ hex_joined h l
byte_is a b i None l = refl
byte_is a b i (Some x) None = refl
byte_is a b i (Some x) (Some y) = ap Some (omega arith)

joined : (p : Result ℕ FromHexError) (r : Result (List ℕ) FromHexError) → result_ok (p >>= (λ x. r >>= (λ xs. Ok (x ∷ xs)))) ≡ before (result_ok p) (result_ok r)
joined (Err e) r = refl
joined (Ok x) (Err e) = refl
joined (Ok x) (Ok xs) = refl

pairs_are : (n i : ℕ) (text : List ℕ) → length text ≡ n + n → result_ok (decode_pairs i text) ≡ hex_pairs (first_chunks 2 n text)
unfolding decode_pairs
pairs_are zero i [] h = refl
pairs_are zero i (a ∷ text) h = absurd (omega arith)
pairs_are (suc n) i [] h = absurd (omega arith)
pairs_are (suc n) i (a ∷ []) h = absurd (omega arith)
pairs_are (suc n) i (a ∷ b ∷ text) h =
    let rest = pairs_are n (i + 2) text (omega arith) in
    joined (pair_value a b i) (decode_pairs (i + 2) text)
    ∙ (λ k. before ((byte_is a b i (hex_digit_value a) (hex_digit_value b) ∙ (λ j. hex_joined (sym (digit_is a) j) (sym (digit_is b) j))) k) (rest k))

-- the two sides by the length of the text, which is even or odd
pub unhex_is : (text : List ℕ) → result_ok (decode_sized text (length text / 2)) ≡ unhex text
unfolding unhex
unhex_is text = elim (cases_eq (length text % 2) 0) [
  | inl even ↦
      rw (ne_eqb (length text % 2) 1 (λ e. omega arith), eq-eqb (length text / 2) (length text / 2) refl, eq-eqb (length text % 2) 0 even)
      (pairs_are (length text / 2) 0 text (omega arith))
  | inr odd ↦ rw (eq-eqb (length text % 2) 1 (omega arith), ne_eqb (length text % 2) 0 odd)
]

digit_tested : (c : ℕ) → is_some (hex_digit c) ≡ is_ascii_hexdigit c
digit_tested c = grind (arith, nat_tests)

pair_tested : (h l : Option ℕ) (r : Option (List ℕ)) → is_some (before (hex_joined h l) r) ≡ (is_some h && (is_some l && is_some r))
pair_tested None l r = refl
pair_tested (Some x) None r = refl
pair_tested (Some x) (Some y) None = refl
pair_tested (Some x) (Some y) (Some ys) = refl

pairs_tested : (n : ℕ) (text : List ℕ) → length text ≡ n + n → is_some (hex_pairs (first_chunks 2 n text)) ≡ list_all is_ascii_hexdigit text
pairs_tested zero [] h = refl
pairs_tested zero (a ∷ text) h = absurd (omega arith)
pairs_tested (suc n) [] h = absurd (omega arith)
pairs_tested (suc n) (a ∷ []) h = absurd (omega arith)
pairs_tested (suc n) (a ∷ b ∷ text) h =
    pair_tested (hex_digit a) (hex_digit b) (hex_pairs (first_chunks 2 n text))
    ∙ (λ k. digit_tested a k && (digit_tested b k && pairs_tested n text (omega arith) k))

-- a text can be read if its length is even and each byte is a digit
pub readable : (text : List ℕ) → is_some (unhex text) ≡ (length text % 2 == 0 && list_all is_ascii_hexdigit text)
unfolding unhex
readable text = elim (cases_eq (length text % 2) 0) [
  | inl even ↦ rw (eq-eqb (length text % 2) 0 even) (pairs_tested (length text / 2) text (omega arith))
  | inr odd ↦ rw (ne_eqb (length text % 2) 0 odd)
]

-- what decoding into room for half as many bytes leaves there
module _ (text : List ℕ) (n : ℕ) (half : n ≡ length text / 2) where
  is_unhex : result_ok (decode_sized text n) ≡ unhex text
  is_unhex = ap (λ k. result_ok (decode_sized text k)) half ∙ unhex_is text

  pub decoded : (out : List ℕ) (r : Result (Unit {0}) FromHexError) (x : Unit {0}) → r ≡ Ok x → MatchResult (decode_sized text n) (λ bytes. (r ≡ Ok tt) × (out ≡ bytes)) (λ e. r ≡ Err e) → Some out ≡ unhex text
  decoded out r x ok h = on (decode_sized text n) h ∙ is_unhex
    where
      on : (d : Result (List ℕ) FromHexError) → MatchResult d (λ bytes. (r ≡ Ok tt) × (out ≡ bytes)) (λ e. r ≡ Err e) → Some out ≡ result_ok d
      on (Ok bytes) h = ap Some h.1
      on (Err e) h = cc

  pub refused : (out : List ℕ) (r : Result (Unit {0}) FromHexError) (f : FromHexError) → r ≡ Err f → MatchResult (decode_sized text n) (λ bytes. (r ≡ Ok tt) × (out ≡ bytes)) (λ e. r ≡ Err e) → None ≡ unhex text
  refused out r f err h = on (decode_sized text n) h ∙ is_unhex
    where
      on : (d : Result (List ℕ) FromHexError) → MatchResult d (λ bytes. (r ≡ Ok tt) × (out ≡ bytes)) (λ e. r ≡ Err e) → None ≡ result_ok d
      on (Ok bytes) h = absurd (let no = h.0 in cc)
      on (Err e) h = refl
