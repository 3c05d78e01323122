-- What the lines of a cache hold, before and after a line is set.
use Rattle.std.specs.Prelude.{◌≡◌, ℕ, zero, suc, ◌+◌, ◌<◌, ◌⊎◌, cond, nat_eq, true, false, List, [], ◌∷◌, set, length, Option, Some, None, refl}
use Rattle.std.proofs.Common.{arith, sym, ◌∙◌, ap, subst, inl, inr, ⊎_elim, length-set}
use Rattle.std.proofs.lemmas.Bool.{cases_eq, cases_lt, cond-true, eq-eqb, ne_eqb, and_parts, and_from, ltb-true, lt-ltb}
use Rattle.std.proofs.lemmas.List.{get_or_past, get_or-set_same, get_or-set_other}
use Rattle.device.specs.declared.lines.Line.{Line}
use Rattle.device.specs.Lines.{AreDistinct, NoLineOf, AreWhole, held, held_below, line, none_held}

-- below k + 1 is below k, or k
pub below_or_last : (j k : ℕ) → j < k + 1 → (j < k) ⊎ (j ≡ k)
below_or_last j k h = ⊎_elim inl (λ past. inr (omega arith)) (cases_lt j k)

-- a line that holds a block is there
pub inside : (lines : List (Option Line)) (j : ℕ) (a : Line) → line lines j ≡ Some a → j < length lines
inside lines j a there = ⊎_elim (λ below. below) (λ past. let gone : line lines j ≡ None = get_or_past lines j None past in let bad : None ≡ Some a = cc in absurd cc) (cases_lt j (length lines))

-- what holds of a line that is set, and of each other line that holds a block, holds of every line that holds a block
pub set_all : (P : ℕ → Line → Type 0) (lines : List (Option Line)) (i : ℕ) (x : Option Line) → ((b : Line) → x ≡ Some b → P i b) →
    ((j : ℕ) (b : Line) → (j ≡ i → ⊥) → line lines j ≡ Some b → P j b) → (j : ℕ) (b : Line) → line (set lines i x) j ≡ Some b → P j b
set_all P lines i x here others j b there = ⊎_elim
    (λ same.
    let at_i : line (set lines i x) i ≡ Some b = subst (λ k. line (set lines i x) k ≡ Some b) same there in
    let below : i < length lines = omega (arith, inside (set lines i x) i b at_i, length-set lines i x) in
    subst (λ k. P k b) (sym same) (here b (sym (get_or-set_same lines i x None below) ∙ at_i)))
    (λ other. others j b other (sym (get_or-set_other lines i j x None other) ∙ there))
    (cases_eq j i)

distinct_rest : (l : Option Line) (lines : List (Option Line)) → AreDistinct (l ∷ lines) → AreDistinct lines
distinct_rest l lines distinct i j a b at_i at_j same = let e : suc i ≡ suc j = distinct (suc i) (suc j) a b at_i at_j same in omega arith

-- the bytes of a line are what is held for its number
pub held_at : (lines : List (Option Line)) (i : ℕ) (a : Line) → AreDistinct lines → line lines i ≡ Some a → held lines a.number ≡ Some a.bytes
held_at [] i a distinct there = let bad : None ≡ Some a = there in absurd cc
held_at (None ∷ lines) zero a distinct there = absurd cc
held_at (None ∷ lines) (suc i) a distinct there = held_at lines i a (distinct_rest None lines distinct) there
held_at (Some b ∷ lines) zero a distinct there =
    let one : b ≡ a = cc in
    cond-true _ _ _ (eq-eqb b.number a.number (ap (λ l. l.number) one)) ∙ ap (λ (l : Line). Some l.bytes) one
held_at (Some b ∷ lines) (suc i) a distinct there =
    let other = λ (same : b.number ≡ a.number). let e : zero ≡ suc i = distinct zero (suc i) b a refl there same in absurd (omega arith) in
    rw (ne_eqb b.number a.number other) (held_at lines i a (distinct_rest (Some b) lines distinct) there)

-- nothing is held for a number that no line has
pub held_not : (lines : List (Option Line)) (n : ℕ) → NoLineOf lines n → held lines n ≡ None
held_not [] n not = refl
held_not (None ∷ lines) n not = held_not lines n (λ i. not (suc i))
held_not (Some b ∷ lines) n not = rw (ne_eqb b.number n (not 0 b refl)) (held_not lines n (λ i. not (suc i)))

-- a first line without the number holds nothing for it
held_first : (x : Option Line) (lines : List (Option Line)) (n : ℕ) → ((b : Line) → x ≡ Some b → b.number ≡ n → ⊥) → held (x ∷ lines) n ≡ held lines n
held_first None lines n not = refl
held_first (Some b) lines n not = rw (ne_eqb b.number n (not b refl)) refl

-- a line that is set changes nothing that is held for another number
pub held_other : (lines : List (Option Line)) (i n : ℕ) (x : Option Line) → ((a : Line) → line lines i ≡ Some a → a.number ≡ n → ⊥) →
    ((b : Line) → x ≡ Some b → b.number ≡ n → ⊥) → held (set lines i x) n ≡ held lines n
held_other [] i n x old new = refl
held_other (l ∷ lines) zero n x old new = held_first x lines n new ∙ sym (held_first l lines n (λ a is. old a is))
held_other (None ∷ lines) (suc i) n x old new = held_other lines i n x old new
held_other (Some b ∷ lines) (suc i) n x old new = ap (cond (nat_eq b.number n) (Some b.bytes)) (held_other lines i n x old new)

-- distinct lines stay so where one is emptied
pub distinct_emptied : (lines : List (Option Line)) (i : ℕ) → AreDistinct lines → AreDistinct (set lines i None)
distinct_emptied lines i distinct j k b c at_j at_k same =
    distinct j k b c (still_there lines i j b at_j) (still_there lines i k c at_k) same
  where
    still_there : (lines : List (Option Line)) (i j : ℕ) (b : Line) → line (set lines i None) j ≡ Some b → line lines j ≡ Some b
    still_there lines i = set_all (λ j b. line lines j ≡ Some b) lines i None (λ b is. absurd cc) (λ j b other there. there)

pub whole_emptied : (lines : List (Option Line)) (i : ℕ) → AreWhole lines → AreWhole (set lines i None)
whole_emptied lines i whole = set_all (λ j b. length b.bytes ≡ 512) lines i None (λ b is. absurd cc) (λ j b other. whole j b)

pub none_held_so : (lines : List (Option Line)) → ((j : ℕ) → j < length lines → line lines j ≡ None) → none_held lines ≡ true
none_held_so [] all = refl
none_held_so (None ∷ lines) all = none_held_so lines (λ j h. all (suc j) (omega arith))
none_held_so (Some a ∷ lines) all = let bad : Some a ≡ None = all zero (omega arith) in absurd cc

pub none_held_not : (lines : List (Option Line)) (j : ℕ) (a : Line) → line lines j ≡ Some a → none_held lines ≡ false
none_held_not [] j a there = let bad : None ≡ Some a = there in absurd cc
none_held_not (None ∷ lines) zero a there = absurd cc
none_held_not (None ∷ lines) (suc j) a there = none_held_not lines j a there
none_held_not (Some b ∷ lines) j a there = refl

pub held_below_at : (blocks : ℕ) (lines : List (Option Line)) (j : ℕ) (a : Line) → held_below blocks lines ≡ true → line lines j ≡ Some a → a.number < blocks
held_below_at blocks [] j a all there = let bad : None ≡ Some a = there in absurd cc
held_below_at blocks (None ∷ lines) zero a all there = absurd cc
held_below_at blocks (None ∷ lines) (suc j) a all there = held_below_at blocks lines j a all there
held_below_at blocks (Some b ∷ lines) zero a all there = let one : b ≡ a = cc in subst (λ (l : Line). l.number < blocks) one (ltb-true b.number blocks (and_parts _ _ all).0)
held_below_at blocks (Some b ∷ lines) (suc j) a all there = held_below_at blocks lines j a (and_parts _ _ all).1 there

pub held_below_so : (blocks : ℕ) (lines : List (Option Line)) → ((j : ℕ) (a : Line) → line lines j ≡ Some a → a.number < blocks) → held_below blocks lines ≡ true
held_below_so blocks [] all = refl
held_below_so blocks (None ∷ lines) all = held_below_so blocks lines (λ j. all (suc j))
held_below_so blocks (Some b ∷ lines) all = and_from _ _ (lt-ltb b.number blocks (all zero b refl)) (held_below_so blocks lines (λ j. all (suc j)))
