-- Blocks that lie on a device go on lying there: after a settle as they were, and after a write with the block that was written.
use Rattle.std.proofs.Common.{◌≡◌, ℕ, ◌<◌, Bool, cond, List, [], length, get_or, set, Result, sym, ap, ◌∙◌, subst, ⊎_elim, length-set, arith}
use Rattle.std.specs.Prelude.{nat_eq}
use Rattle.std.proofs.lemmas.Bool.{cases_eq, cond-true, cond-false, cond_both, eq-eqb, ne_eqb, lt-ltb}
use Rattle.std.proofs.lemmas.List.{get_or-set_same, get_or-set_other}
use Rattle.device.specs.declared.fault.Fault.{Fault}
use Rattle.device.specs.Meaning.{Cell, Exists, IsSure, Meaning, Settled, Stays, Written, holding, loose, sure}
use Rattle.volume.specs.Effects.{Lie}
use Rattle.volume.proofs.Effects.{written_anyway}
use Rattle.volume.proofs.Meant.{Rewritten}

-- what there is was there before
pub existed : {m m' : Meaning} → Stays m m' → (way k : ℕ) → Exists m' way k → Exists m way k
existed s way k e = record { way_below = subst (λ w. way < w) s.ways e.way_below; below = subst (λ b. k < b) s.blocks e.below }

-- what a sure cell holds, or else `d`
abbrev bytes_in : List ℕ → Cell → List ℕ
bytes_in d (sure bytes) = bytes
bytes_in d loose = d

-- a sure cell holds what was written to it
held : (block bytes : List ℕ) (c : Cell) → holding block c ≡ sure bytes → bytes ≡ block
held block bytes (sure old) is = ap (bytes_in block) (sym is)
held block bytes loose is = cc

-- a written cell is sure where it was
sure_held : (block : List ℕ) (c : Cell) → IsSure c → IsSure (holding block c)
sure_held block (sure old) is = tt
sure_held block loose is = is

-- a write, accepted or refused, leaves every sure cell sure
pub sure_written : {m m' : Meaning} {n : ℕ} {block : List ℕ} {answer : Result Unit Fault} → Written m n block answer m' → (way k : ℕ) → Exists m way k → IsSure (m.cell way k) → IsSure (m'.cell way k)
sure_written {m} {m'} {n} {block} w way k e is =
    subst IsSure (sym (written_anyway w way k e)) (cond_both (nat_eq k n) (holding block (m.cell way k)) (m.cell way k) IsSure (λ same. sure_held block (m.cell way k) is) (λ other. is))

-- after a write, accepted or refused, the blocks lie there with the one that was written
pub lie_written : {m m' : Meaning} {n : ℕ} {block : List ℕ} {answer : Result Unit Fault} (blocks : List (List ℕ)) → Lie m blocks → Written m n block answer m' → Lie m' (set blocks n block)
lie_written {m} {m'} {n} {block} blocks lie w =
    λ way k bytes there is inside.
    let size = length-set blocks n block in
    let before : Exists m way k = existed w.stays way k there in
    let was : cond (nat_eq k n) (holding block (m.cell way k)) (m.cell way k) ≡ sure bytes = sym (written_anyway w way k before) ∙ is in
    ⊎_elim
    (λ same.
    held block bytes (m.cell way k) (sym (cond-true _ _ _ (eq-eqb k n same)) ∙ was)
    ∙ sym (ap (λ i. get_or (set blocks n block) i []) same ∙ get_or-set_same blocks n block [] (omega (arith, size))))
    (λ other. lie way k bytes before (sym (cond-false _ _ _ (ne_eqb k n other)) ∙ was) (omega (arith, size)) ∙ sym (get_or-set_other blocks n k block [] other))
    (cases_eq k n)

-- a settle leaves the blocks that lie there
pub lie_settled : {m m' : Meaning} {answer : Bool} (blocks : List (List ℕ)) → Settled m answer m' → Lie m blocks → Lie m' blocks
lie_settled {m} {m'} blocks settled lie =
    λ way k bytes there is inside. let before : Exists m way k = existed settled.stays way k there in lie way k bytes before (sym (settled.cells way k before) ∙ is) inside

-- blocks that were written from block 0 on lie there
pub lie_rewritten : {m m' : Meaning} (blocks : List (List ℕ)) → Rewritten m blocks m' → Lie m' blocks
lie_rewritten {m} {m'} blocks r =
    λ way k bytes there is inside.
    let before : Exists m way k = existed r.stays way k there in
    held (get_or blocks k []) bytes (m.cell way k) (sym (cond-true _ _ _ (lt-ltb k (length blocks) inside)) ∙ sym (r.cells way k before) ∙ is)
