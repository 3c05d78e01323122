-- What a device holds after writes from its first block on. Whether a write was accepted makes no difference to sure cells.
use Rattle.std.proofs.Common.{◌≡◌, ℕ, ◌<◌, cond, List, [], ◌∷◌, ◌++◌, length, get_or, Result, Ok, Err, sym, refl, ap, ◌∙◌, subst, ⊎_elim, arith}
use Rattle.std.specs.Prelude.{nat_eq, nat_lt}
use Rattle.std.proofs.lemmas.Bool.{cases_order, cond-true, cond-false, cond_both, eq-eqb, ne_eqb, eqb-true, lt-ltb, le-ltb}
use Rattle.std.proofs.lemmas.List.{get_or_append_left, get_or_push, length_push}
use Rattle.device.specs.declared.fault.Fault.{Fault}
use Rattle.device.specs.Meaning.{Cell, Exists, IsSure, Meaning, Stays, Written, after_write, holding, loose, sure}
use Rattle.volume.proofs.Meant.{Rewritten}

-- a sure cell has the write accepted, and a loose one stands anyway
anyway : (answer : Result Unit Fault) (n k : ℕ) (block : List ℕ) (c : Cell) → (k ≡ n → IsSure c → answer ≡ Ok tt) → after_write answer n block k c ≡ cond (nat_eq k n) (holding block c) c
anyway (Ok done) n k block c taken = refl
anyway (Err fault) n k block (sure bytes) taken =
    cond_both (nat_eq k n) (sure block) (sure bytes) (λ (c : Cell). sure bytes ≡ c) (λ e. let is : Err fault ≡ Ok tt = taken (eqb-true k n e) tt in cc) (λ e. refl)
anyway (Err fault) n k block loose taken = cond_both (nat_eq k n) loose loose (λ (c : Cell). loose ≡ c) (λ e. refl) (λ e. refl)

pub written_anyway : {m m' : Meaning} {n : ℕ} {block : List ℕ} {answer : Result Unit Fault} → Written m n block answer m' → (way k : ℕ) → Exists m way k → m'.cell way k ≡ cond (nat_eq k n) (holding block (m.cell way k)) (m.cell way k)
written_anyway {m} {m'} {n} {block} {answer} w way k e =
    w.cells way k e
    ∙ anyway answer n k block (m.cell way k)
    (λ same is. w.taken way (record { way_below = e.way_below; below = subst (λ i. i < m.blocks) same e.below }) (subst (λ i. IsSure (m.cell way i)) same is))

pub stays_none : (m : Meaning) → Stays m m
stays_none m = record { blocks = refl; ways = refl; sound = λ e. e }

pub stays_more : {m m1 m2 : Meaning} → Stays m m1 → Stays m1 m2 → Stays m m2
stays_more a b = record { blocks = b.blocks ∙ a.blocks; ways = b.ways ∙ a.ways; sound = λ e. b.sound (a.sound e) }

-- what there is stays
pub exists_still : {m m' : Meaning} → Stays m m' → (way k : ℕ) → Exists m way k → Exists m' way k
exists_still s way k e = record { way_below = subst (λ w. way < w) (sym s.ways) e.way_below; below = subst (λ b. k < b) (sym s.blocks) e.below }

pub rewritten_none : (m : Meaning) → Rewritten m [] m
rewritten_none m = record { stays = stays_none m; cells = λ way k e. sym (cond-false _ _ _ (le-ltb k 0 (omega arith))) }

-- the cell of block k after blocks were written from block 0 on, and one more after them
one_more : (blocks : List (List ℕ)) (block : List ℕ) (k : ℕ) (c c1 : Cell) → c1 ≡ cond (nat_lt k (length blocks)) (holding (get_or blocks k []) c) c
    → cond (nat_eq k (length blocks)) (holding block c1) c1 ≡ cond (nat_lt k (length (blocks ++ block ∷ []))) (holding (get_or (blocks ++ block ∷ []) k []) c) c
one_more blocks block k c c1 is =
    let size = length_push blocks block in
    ⊎_elim
    (λ here.
    cond-true _ _ _ (eq-eqb k (length blocks) here) ∙ ap (holding block) (is ∙ cond-false _ _ _ (le-ltb k (length blocks) (omega arith)))
    ∙ sym (cond-true _ _ _ (lt-ltb k (length (blocks ++ block ∷ [])) (omega arith)) ∙ ap (λ b. holding b c) (get_or_push blocks block [] k (sym here))))
    (⊎_elim
    (λ before.
    cond-false _ _ _ (ne_eqb k (length blocks) (λ e. omega arith)) ∙ is ∙ cond-true _ _ _ (lt-ltb k (length blocks) before)
    ∙ sym (cond-true _ _ _ (lt-ltb k (length (blocks ++ block ∷ [])) (omega arith)) ∙ ap (λ b. holding b c) (get_or_append_left blocks (block ∷ []) [] k before)))
    (λ after.
    cond-false _ _ _ (ne_eqb k (length blocks) (λ e. omega arith)) ∙ is ∙ cond-false _ _ _ (le-ltb k (length blocks) (omega arith))
    ∙ sym (cond-false _ _ _ (le-ltb k (length (blocks ++ block ∷ [])) (omega arith)))))
    (cases_order k (length blocks))

pub rewritten_more : {m m1 m2 : Meaning} {blocks : List (List ℕ)} {block : List ℕ} {answer : Result Unit Fault} (n : ℕ) → Rewritten m blocks m1 → n ≡ length blocks → Written m1 n block answer m2 → Rewritten m (blocks ++ block ∷ []) m2
rewritten_more {m} {m1} {m2} {blocks} {block} n r at w =
    record {
      stays = stays_more r.stays w.stays;
      cells = λ way k e.
          written_anyway w way k (exists_still r.stays way k e) ∙ ap (λ i. cond (nat_eq k i) (holding block (m1.cell way k)) (m1.cell way k)) at
          ∙ one_more blocks block k (m.cell way k) (m1.cell way k) (r.cells way k e);
    }
