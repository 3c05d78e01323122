-- Zeros, and the identity as text and as 20 bytes.
use Rattle.std.proofs.Common.{◌≡◌, ℕ, zero, suc, ◌-◌, ◌<◌, ◌≤◌, Bool, true, false, ◌&&◌, eqb, leb, List, ◌++◌, length, drop, replicate, sym, refl, ap, ◌∙◌, arith}
use Rattle.std.proofs.lemmas.List.{drop_at, length-append, length-replicate}
use Rattle.std.proofs.lemmas.Bool.{cond-true, eq-eqb, ne_eqb, le-leb, lt-leb, and_left, and_right, and_from, and_parts, eqb-true}
use Rattle.std.proofs.lemmas.List.Folds.{prefix_len-append}
use Rattle.std.specs.Char.{is_ascii_digit}
use Rattle.sim.specs.Identity.{all_zero}
use Rattle.sim.specs.Identity.{digit_run, is_padded, is_identity, padded}

and_on : (x y : Bool) → x ≡ true → (x && y) ≡ y
and_on x y e = rw e

pub all_zero_replicate : (n : ℕ) → all_zero (replicate n 0) ≡ true
all_zero_replicate zero = refl
all_zero_replicate (suc n) = and_from _ _ (eq-eqb 0 0 refl) (all_zero_replicate n)

-- `n` counts the digits at the front of 20 bytes
module _ (bs : List ℕ) (n : ℕ) (long : length bs ≡ 20) (e : n ≡ digit_run bs) where
  pub padded_yes : 6 ≤ n → all_zero (drop n bs) ≡ true → is_padded bs ≡ true
  unfolding is_padded
  padded_yes h z = rw (← e) (and_from _ _ (eq-eqb _ 20 long) (and_from _ _ (le-leb 6 n h) z))

  pub padded_short : n < 6 → is_padded bs ≡ false
  unfolding is_padded
  padded_short h = rw (← e) (and_right _ _ (and_left _ _ (lt-leb 6 n h)))

  pub padded_tail : all_zero (drop n bs) ≡ false → is_padded bs ≡ false
  unfolding is_padded
  padded_tail z = rw (← e) (and_right (eqb (length bs) 20) (leb 6 n && all_zero (drop n bs)) (and_right (leb 6 n) _ z))

pub padded_length : (bs : List ℕ) → is_padded bs ≡ true → length bs ≡ 20
unfolding is_padded
padded_length bs h = eqb-true _ 20 (and_parts _ _ h).0

-- all of a text are digits, and none follows
pub run_append : (text rest : List ℕ) → digit_run text ≡ length text → digit_run rest ≡ 0 → digit_run (text ++ rest) ≡ length text
run_append text rest e z = prefix_len-append is_ascii_digit text rest ∙ cond-true _ _ _ (eq-eqb _ _ e) ∙ omega (arith, z)

run_zeros : (n : ℕ) → digit_run (replicate n 0) ≡ 0
run_zeros zero = refl
run_zeros (suc n) = refl

and_true : (x y : Bool) → y ≡ true → (x && y) ≡ x
and_true true y e = e
and_true false y e = refl

-- 20 bytes hold an identity just where it was one before zeros were put after it
pub padded_is : (text : List ℕ) → length text ≤ 20 → digit_run text ≡ length text → is_padded (padded text) ≡ is_identity text
unfolding is_padded is_identity padded
padded_is text high all =
    let zeros = replicate (20 - length text) 0 in
    let long : digit_run (text ++ zeros) ≡ length text = run_append text zeros all (run_zeros (20 - length text)) in
    let tail : all_zero (drop (length text) (text ++ zeros)) ≡ true = ap all_zero (drop_at text zeros (length text) refl) ∙ all_zero_replicate (20 - length text) in
    let wide : length (text ++ zeros) ≡ 20 = simp (length-append, length-replicate) (omega arith) in
    rw long (and_on _ _ (eq-eqb _ 20 wide) ∙ and_true _ _ tail ∙ sym (and_true _ _ (le-leb _ 20 high)) ∙ sym (and_true _ _ (eq-eqb _ _ all)))

pub identity_long : (text : List ℕ) → 20 < length text → is_identity text ≡ false
unfolding is_identity
identity_long text h = and_left _ _ (and_right _ _ (lt-leb _ 20 h))

pub identity_mixed : (text : List ℕ) → (digit_run text ≡ length text → ⊥) → is_identity text ≡ false
unfolding is_identity
identity_mixed text h = and_right _ _ (ne_eqb _ _ h)
