-- The rule of the cache leaves no choice, so which line makes room can be worked out.
use Rattle.std.specs.Prelude.{◌≡◌, ℕ, zero, suc, ◌&&◌, ◌||◌, Bool, true, false, nat_eq, nat_le, nat_lt, List, [], ◌∷◌, length, replicate, set, Option, Some, None, refl}
use Rattle.std.proofs.Common.{arith, sym, ◌∙◌, ap, subst, inl, inr, ⊎_elim}
use Rattle.std.proofs.lemmas.Bool.{cases_lt, and_parts, or_cases, ltb-true, leb-true, eqb-true}
use Rattle.device.specs.declared.lines.Line.{Line}
use Rattle.device.specs.declared.lines.Slot.{Slot}
use Rattle.device.specs.declared.lines.Slot.TheVariants.{Held, Empty, Least}
use Rattle.device.specs.Evictions.{EvictsAfter, Puts}
use Rattle.device.specs.Lines.{Goes, AreDistinct, FirstHold, IsLineOf, IsLowestEmpty, IsSlotFor, NoLineOf, NotAfter, filled, held, line, rewritten}
use Rattle.device.specs.LinesLaws.{held_at, set_all}

-- of two lines that go no later than one another the numbers are equal
same_number : (count number count' number' : ℕ) → NotAfter count number count' number' → NotAfter count' number' count number → number ≡ number'
same_number count number count' number' = ⊎_elim
    (λ fewer. ⊎_elim (λ more. absurd (omega arith)) (λ same. absurd (omega (arith, fewer, same.0))))
    (λ lower. ⊎_elim (λ more. absurd (omega (arith, lower.0, more))) (λ same. omega (arith, lower.1, same.1)))

lowest_one : (lines : List (Option Line)) (i j : ℕ) → IsLowestEmpty lines i → IsLowestEmpty lines j → i ≡ j
lowest_one lines i j s t = ⊎_elim
    (λ below. absurd (t.lowest i below s.empty))
    (λ above. ⊎_elim (λ below. absurd (s.lowest j below t.empty)) (λ other. omega arith) (cases_lt j i))
    (cases_lt i j)

-- the rule leaves no choice: one slot alone is for a block
one_slot : (lines : List (Option Line)) (n : ℕ) (s t : Slot) → AreDistinct lines → IsSlotFor lines n s → IsSlotFor lines n t → s ≡ t
one_slot lines n (Held i) (Held j) distinct (a, is) (b, at) = ap Held (distinct i j a b is.there at.there (is.number ∙ sym at.number))
one_slot lines n (Held i) (Empty j) distinct (a, is) (not, empty) = absurd (not i a is.there is.number)
one_slot lines n (Held i) (Least j) distinct (a, is) (not, full, least) = absurd (not i a is.there is.number)
one_slot lines n (Empty i) (Held j) distinct (not, empty) (b, at) = absurd (not j b at.there at.number)
one_slot lines n (Empty i) (Empty j) distinct (not, empty) (not', empty') = ap Empty (lowest_one lines i j empty empty')
one_slot lines n (Empty i) (Least j) distinct (not, empty) (not', full, least) = absurd (full i empty.inside empty.empty)
one_slot lines n (Least i) (Held j) distinct (not, full, least) (b, at) = absurd (not j b at.there at.number)
one_slot lines n (Least i) (Empty j) distinct (not, full, least) (not', empty) = absurd (full j empty.inside empty.empty)
one_slot lines n (Least i) (Least j) distinct (not, full, (a, least)) (not', full', (b, least')) =
    ap Least (distinct i j a b least.there least'.there (same_number a.count a.number b.count b.number (least.least j b least'.there) (least'.least i a least.there)))

-- the lines after a write that goes to this slot
abbrev again : Option Line → List ℕ → Option Line
again None block = None
again (Some a) block = Some (rewritten a block)

abbrev after : List (Option Line) → ℕ → List ℕ → Slot → List (Option Line)
after lines n block (Held i) = set lines i (again (line lines i) block)
after lines n block (Empty i) = set lines i (Some (filled n block))
after lines n block (Least i) = set lines i (Some (filled n block))

goes_so : (lines lines' : List (Option Line)) (n : ℕ) (block : List ℕ) (slot : Slot) → IsSlotFor lines n slot → Goes lines n block slot lines' → lines' ≡ after lines n block slot
goes_so lines lines' n block (Held i) (a, is) goes = goes a is.there ∙ ap (λ l. set lines i (again l block)) (sym is.there)
goes_so lines lines' n block (Empty i) is goes = goes
goes_so lines lines' n block (Least i) is goes = goes

goes_there : (lines : List (Option Line)) (n : ℕ) (block : List ℕ) (slot : Slot) → Goes lines n block slot (after lines n block slot)
goes_there lines n block (Held i) = λ a is. ap (λ l. set lines i (again l block)) is
goes_there lines n block (Empty i) = refl
goes_there lines n block (Least i) = refl

-- distinct lines stay so where a line comes to hold a number that no other has
distinct_set : (lines : List (Option Line)) (i : ℕ) (x : Line) → AreDistinct lines → ((j : ℕ) (b : Line) → (j ≡ i → ⊥) → line lines j ≡ Some b → b.number ≡ x.number → ⊥) →
    AreDistinct (set lines i (Some x))
distinct_set lines i x distinct free j k b c at_j at_k same = set_all (λ j b. (k : ℕ) (c : Line) → line (set lines i (Some x)) k ≡ Some c → b.number ≡ c.number → j ≡ k) lines i (Some x)
    (λ b is k c at_k same. set_all (λ k c. b.number ≡ c.number → i ≡ k) lines i (Some x)
    (λ c here same. refl)
    (λ k c other there same. let one : x ≡ b = cc in absurd (free k c other there (sym same ∙ ap (λ l. l.number) (sym one)))) k c at_k same)
    (λ j b other there k c at_k same. set_all (λ k c. b.number ≡ c.number → j ≡ k) lines i (Some x)
    (λ c here same. let one : x ≡ c = cc in absurd (free j b other there (same ∙ ap (λ l. l.number) (sym one))))
    (λ k c other' there' same. distinct j k b c there there' same) k c at_k same)
    j b at_j k c at_k same

distinct_after : (lines : List (Option Line)) (n : ℕ) (block : List ℕ) (slot : Slot) → AreDistinct lines → IsSlotFor lines n slot → AreDistinct (after lines n block slot)
distinct_after lines n block (Held i) distinct (a, is) =
    subst (λ l. AreDistinct (set lines i (again l block))) (sym is.there)
    (distinct_set lines i (rewritten a block) distinct (λ j b other there same. other (distinct j i b a there is.there same)))
distinct_after lines n block (Empty i) distinct (not, empty) = distinct_set lines i (filled n block) distinct (λ j b other. not j b)
distinct_after lines n block (Least i) distinct (not, full, least) = distinct_set lines i (filled n block) distinct (λ j b other. not j b)

-- a test for each part of the rule, which computes where the numbers are known
abbrev first_hold : List (Option Line) → ℕ → Bool
first_hold lines zero = true
first_hold [] (suc k) = false
first_hold (None ∷ lines) (suc k) = false
first_hold (Some a ∷ lines) (suc k) = first_hold lines k

first_hold_so : (lines : List (Option Line)) (k : ℕ) → first_hold lines k ≡ true → FirstHold lines k
first_hold_so lines zero is j h gone = absurd (omega arith)
first_hold_so [] (suc k) is j h gone = absurd cc
first_hold_so (None ∷ lines) (suc k) is j h gone = absurd cc
first_hold_so (Some a ∷ lines) (suc k) is zero h gone = absurd cc
first_hold_so (Some a ∷ lines) (suc k) is (suc j) h gone = first_hold_so lines k is j (omega arith) gone

abbrev goes_first : Line → List (Option Line) → Bool
goes_first a [] = true
goes_first a (None ∷ lines) = goes_first a lines
goes_first a (Some b ∷ lines) = (nat_lt a.count b.count || (nat_eq a.count b.count && nat_le a.number b.number)) && goes_first a lines

goes_first_so : (a : Line) (lines : List (Option Line)) → goes_first a lines ≡ true → (j : ℕ) (b : Line) → line lines j ≡ Some b → NotAfter a.count a.number b.count b.number
goes_first_so a [] is j b there = let bad : None ≡ Some b = there in absurd cc
goes_first_so a (None ∷ lines) is zero b there = absurd cc
goes_first_so a (None ∷ lines) is (suc j) b there = goes_first_so a lines is j b there
goes_first_so a (Some c ∷ lines) is zero b there =
    let one : c ≡ b = cc in
    subst (λ (l : Line). NotAfter a.count a.number l.count l.number) one (⊎_elim
    (λ fewer. inl (ltb-true a.count c.count fewer))
    (λ lower. let both = and_parts _ _ lower in inr (eqb-true a.count c.count both.0, leb-true a.number c.number both.1))
    (or_cases _ _ (and_parts _ _ is).0))
goes_first_so a (Some c ∷ lines) is (suc j) b there = goes_first_so a lines (and_parts _ _ is).1 j b there

-- all that is to be tested of a slot for block n
abbrev Fits : List (Option Line) → ℕ → Slot → Type 0
Fits lines n (Held i) = (a : Line) × IsLineOf lines n i a
Fits lines n (Empty i) = (held lines n ≡ None) × (nat_lt i (length lines) ≡ true) × (line lines i ≡ None) × (first_hold lines i ≡ true)
Fits lines n (Least i) = (held lines n ≡ None) × (first_hold lines (length lines) ≡ true) × ((a : Line) × (line lines i ≡ Some a) × (goes_first a lines ≡ true))

none_of : (lines : List (Option Line)) (n : ℕ) → AreDistinct lines → held lines n ≡ None → NoLineOf lines n
none_of lines n distinct is i a there same =
    let some : held lines a.number ≡ Some a.bytes = held_at lines i a distinct there in
    let none : held lines a.number ≡ None = ap (held lines) same ∙ is in
    absurd cc

fits_so : (lines : List (Option Line)) (n : ℕ) (slot : Slot) → AreDistinct lines → Fits lines n slot → IsSlotFor lines n slot
fits_so lines n (Held i) distinct fits = fits
fits_so lines n (Empty i) distinct (not, below, empty, hold) =
    (none_of lines n distinct not, record { inside = ltb-true i (length lines) below; empty = empty; lowest = first_hold_so lines i hold })
fits_so lines n (Least i) distinct (not, hold, (a, there, first)) =
    (none_of lines n distinct not, first_hold_so lines (length lines) hold, (a, record { there = there; least = goes_first_so a lines first }))

-- writes that go to these slots in turn, and what is so of the lines at the end, whatever bytes are written
module _ (P : List (Option Line) → Type 0) where
  abbrev Plan : List (Option Line) → List ℕ → List Slot → Type 0
  Plan lines [] slots = P lines
  Plan lines (n ∷ numbers) [] = ⊥
  Plan lines (n ∷ numbers) (slot ∷ slots) = Fits lines n slot × ((block : List ℕ) → Plan (after lines n block slot) numbers slots)

  plan_some : (lines : List (Option Line)) (numbers : List ℕ) (slots : List Slot) → AreDistinct lines → Plan lines numbers slots → (lines' : List (Option Line)) × Puts lines numbers lines'
  plan_some lines [] slots distinct plan = (lines, refl)
  plan_some lines (n ∷ numbers) [] distinct plan = absurd plan
  plan_some lines (n ∷ numbers) (slot ∷ slots) distinct (fits, next) =
      let is_for = fits_so lines n slot distinct fits in
      let rest = plan_some (after lines n [] slot) numbers slots (distinct_after lines n [] slot distinct is_for) (next []) in
      (rest.0, (after lines n [] slot, record { block = []; slot = slot; is_for = is_for; goes = goes_there lines n [] slot }, rest.1))

  plan_all : (lines : List (Option Line)) (numbers : List ℕ) (slots : List Slot) → AreDistinct lines → Plan lines numbers slots →
      (lines' : List (Option Line)) → Puts lines numbers lines' → AreDistinct lines' × P lines'
  plan_all lines [] slots distinct plan lines' same = subst (λ l. AreDistinct l × P l) (sym same) (distinct, plan)
  plan_all lines (n ∷ numbers) [] distinct plan lines' puts = absurd plan
  plan_all lines (n ∷ numbers) (slot ∷ slots) distinct (fits, next) lines' (between, put, puts) =
      let is_for = fits_so lines n slot distinct fits in
      let is : between ≡ after lines n put.block slot =
      goes_so lines between n put.block slot is_for (subst (λ s. Goes lines n put.block s between) (one_slot lines n put.slot slot distinct put.is_for is_for) put.goes) in
      plan_all (after lines n put.block slot) numbers slots (distinct_after lines n put.block slot distinct is_for) (next put.block) lines' (subst (λ l. Puts l numbers lines') is puts)

-- the line of block gone is the one that is written least, and block n is in none
record Ends (n gone : ℕ) (lines : List (Option Line)) : Type 0 where
  i : ℕ
  a : Line
  there : IsLineOf lines gone i a
  fits : Fits lines n (Least i)

none_line : (k i : ℕ) → line (replicate k None) i ≡ None
none_line zero i = refl
none_line (suc k) zero = refl
none_line (suc k) (suc i) = none_line k i

none_distinct : (k : ℕ) → AreDistinct (replicate k None)
none_distinct k i j a b at_i at_j same = let bad : None ≡ Some a = sym (none_line k i) ∙ at_i in absurd cc

evicts_after : (numbers : List ℕ) (n gone : ℕ) (slots : List Slot) → Plan (Ends n gone) (replicate 8 None) numbers slots → EvictsAfter numbers n gone
evicts_after numbers n gone slots plan =
    record {
      some = plan_some (Ends n gone) (replicate 8 None) numbers slots (none_distinct 8) plan;
      all = λ lines puts.
          let end = plan_all (Ends n gone) (replicate 8 None) numbers slots (none_distinct 8) plan lines puts in
          let is_for = fits_so lines n (Least end.1.i) end.0 end.1.fits in
          record { i = end.1.i; a = end.1.a; there = end.1.there; is_for = is_for; only = λ slot is. one_slot lines n slot (Least end.1.i) end.0 is is_for };
    }

-- the four tests of an empty line, where they compute
four : {A B C D : Type 0} {a : A} {b : B} {c : C} {d : D} → (a ≡ a) × (b ≡ b) × (c ≡ c) × (d ≡ d)
four = (refl, refl, refl, refl)

-- eight blocks fill the lines from the lowest on; what happens from there, whatever the bytes of each
after_eight : (numbers : List ℕ) (n gone : ℕ) (slots : List Slot) →
    ((b8 b7 b6 b5 b4 b3 b2 b1 : List ℕ) →
    Plan (Ends n gone) (Some (filled 8 b8) ∷ Some (filled 7 b7) ∷ Some (filled 6 b6) ∷ Some (filled 5 b5) ∷ Some (filled 4 b4) ∷ Some (filled 3 b3) ∷ Some (filled 2 b2) ∷ Some (filled 1 b1) ∷ []) numbers slots) →
    EvictsAfter (8 ∷ 7 ∷ 6 ∷ 5 ∷ 4 ∷ 3 ∷ 2 ∷ 1 ∷ numbers) n gone
after_eight numbers n gone slots next =
    evicts_after (8 ∷ 7 ∷ 6 ∷ 5 ∷ 4 ∷ 3 ∷ 2 ∷ 1 ∷ numbers) n gone (Empty 0 ∷ Empty 1 ∷ Empty 2 ∷ Empty 3 ∷ Empty 4 ∷ Empty 5 ∷ Empty 6 ∷ Empty 7 ∷ slots)
    (four, λ b8. (four, λ b7. (four, λ b6. (four, λ b5. (four, λ b4. (four, λ b3. (four, λ b2. (four, λ b1. next b8 b7 b6 b5 b4 b3 b2 b1))))))))

pub lowest_goes : EvictsAfter (8 ∷ 7 ∷ 6 ∷ 5 ∷ 4 ∷ 3 ∷ 2 ∷ 1 ∷ []) 9 1
lowest_goes = after_eight [] 9 1 [] (λ b8 b7 b6 b5 b4 b3 b2 b1.
    record { i = 7; a = filled 1 b1; there = record { there = refl; number = refl }; fits = (refl, refl, (filled 1 b1, refl, refl)) })

pub least_goes : EvictsAfter (8 ∷ 7 ∷ 6 ∷ 5 ∷ 4 ∷ 3 ∷ 2 ∷ 1 ∷ 1 ∷ []) 9 2
least_goes = after_eight (1 ∷ []) 9 2 (Held 7 ∷ []) (λ b8 b7 b6 b5 b4 b3 b2 b1. (
  (filled 1 b1, record { there = refl; number = refl }),
  (λ block.
      record { i = 6; a = filled 2 b2; there = record { there = refl; number = refl }; fits = (refl, refl, (filled 2 b2, refl, refl)) }),
))
