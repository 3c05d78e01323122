-- Where the words of a line begin and end.
use Rattle.std.proofs.Common.{◌≡◌, ℕ, ◌+◌, Bool, true, false, cond, not, List, [], ◌∷◌, length, get_or, take, drop, Some, None, sym, refl, ap, ◌∙◌, subst, inl, inr, one-add, arith}
use Rattle.std.proofs.lemmas.Bool.{cases_lt, not-true, lt-ltb, cond-true, cond-false}
use Rattle.std.proofs.lemmas.List.{drop_all, drop_more}
use Rattle.std.proofs.lemmas.List.Folds.{length-prefix_len}
use Rattle.std.proofs.lemmas.List.Sums.{position_or_len_is}
use Rattle.std.proofs.lemmas.List.Quantifiers.{position-Some}
use Rattle.std.specs.List.{prefix_len, position_or_len, position}
use Rattle.subscriber.specs.Text.{onto_first, blank, words}

-- a byte of a word
abbrev pub solid : ℕ → Bool
solid c = not (blank c)

-- the words ws begin with the one that s begins with
abbrev First : List ℕ → List (List ℕ) → Type 0
First s ws = ws ≡ take (prefix_len solid s) s ∷ words (drop (prefix_len solid s) s)

first_by : (c d : ℕ) (ds : List ℕ) (b : Bool) → blank c ≡ false → blank d ≡ b → (blank d ≡ false → First (d ∷ ds) (words (d ∷ ds))) → First (c ∷ d ∷ ds) (cond (not b) (onto_first c (words (d ∷ ds))) ((c ∷ []) ∷ words (d ∷ ds)))
first_by c d ds true e f on = rw (e, f) (rw f refl)
first_by c d ds false e f on = rw (e, one-add (prefix_len solid (d ∷ ds))) (ap (onto_first c) (on f))

-- where no blank stands a word begins, which ends at the next blank
word_first : (c : ℕ) (cs : List ℕ) → blank c ≡ false → First (c ∷ cs) (words (c ∷ cs))
word_first c [] e = rw e refl
word_first c (d ∷ ds) e = cond-false _ _ _ e ∙ first_by c d ds (blank d) e refl (word_first d ds)

skip_by : (c : ℕ) (cs : List ℕ) (b : Bool) → blank c ≡ b → words cs ≡ words (drop (position_or_len solid cs) cs) → words (c ∷ cs) ≡ words (drop (position_or_len solid (c ∷ cs)) (c ∷ cs))
skip_by c cs true e on = rw (e, one-add (position_or_len solid cs)) on
skip_by c cs false e on = rw e (rw e refl)

-- blanks before the first word do not count
words_skip : (t : List ℕ) → words t ≡ words (drop (position_or_len solid t) t)
words_skip [] = refl
words_skip (c ∷ cs) = skip_by c cs (blank c) refl (words_skip cs)

-- a line of blanks has no word
pub words_none : (t : List ℕ) → None ≡ position solid t → words t ≡ []
words_none t e =
    elim (cases_lt (position_or_len solid t) (length t)) [
      | inl some ↦ let is : position solid t ≡ Some (position_or_len solid t) = cond-true _ _ _ (lt-ltb _ _ some) in cc
      | inr none ↦ words_skip t ∙ ap words (drop_all (position_or_len solid t) t none)
    ]

-- a line whose first byte that is no blank stands at n, and whose first word is m bytes long
pub words_some : (t s word rest : List ℕ) (n m : ℕ) → Some n ≡ position solid t → s ≡ drop n t → m ≡ length (take (prefix_len solid s) s) → word ≡ take m s → rest ≡ drop m s → words t ≡ word ∷ words rest
words_some t s word rest n m e f g h k =
    let at = position-Some solid t n 0 (sym e) in
    let start : s ≡ get_or t n 0 ∷ drop (n + 1) t = f ∙ drop_more t n 0 at.0 in
    let skip : words t ≡ words s = words_skip t ∙ ap (λ i. words (drop i t)) (position_or_len_is solid t n 0 (omega arith) at.2 (λ _. at.1)) ∙ ap words (sym f) in
    let end : prefix_len solid s ≡ m = sym (g ∙ length-prefix_len solid s) in
    skip ∙ subst (λ u. First u (words u)) (sym start) (word_first (get_or t n 0) (drop (n + 1) t) (not-true _ at.1)) ∙ rw (h, k, end) refl
