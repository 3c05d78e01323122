-- The lists of calls, one entry more at a time.
use Rattle.std.proofs.Common.{◌≡◌, ℕ, zero, suc, ◌+◌, ◌<◌, List, [], ◌∷◌, ◌++◌, length, map, replicate, get_or, take, refl, sym, ap, subst, ◌∙◌, le_of_suc-le-suc, arith}
use Rattle.std.proofs.lemmas.List.{map-append, take_more, length-take-le}
use Rattle.volume.specs.declared.entry.Call.{Call}
use Rattle.volume.specs.declared.entry.Call.TheVariants.{Open, Read, Write, Keep, Shut}
use Rattle.volume.specs.declared.entry.Entry.{Entry}
use Rattle.trial.specs.Lists.{AreasWhole, asked, bare, blocks_read, reads_from, whole_area, with_block, writes_from}

abbrev pub Asked : Type 0
Asked = Call × List ℕ × ℕ

-- the writes alone
abbrev pub put_in : ℕ → List (List ℕ) → List Asked
put_in k [] = []
put_in k (block ∷ blocks) = (Write 0 k, block, 2048) ∷ put_in (suc k) blocks

-- and the reads
abbrev pub got_out : ℕ → ℕ → List Asked
got_out k zero = []
got_out k (suc n) = (Read k, replicate 512 0, 2048) ∷ got_out (suc k) n

pub writes_end : (k : ℕ) (blocks : List (List ℕ)) → writes_from k blocks ≡ put_in k blocks ++ bare (Keep 0) ∷ bare Shut ∷ []
writes_end k [] = refl
writes_end k (block ∷ blocks) = ap (λ l. (Write 0 k, block, 2048) ∷ l) (writes_end (suc k) blocks)

put_push : (k : ℕ) (blocks : List (List ℕ)) (block : List ℕ) → put_in k (blocks ++ block ∷ []) ≡ put_in k blocks ++ (Write 0 (k + length blocks), block, 2048) ∷ []
put_push k [] block = ap (λ n. (Write 0 n, block, 2048) ∷ []) (omega arith)
put_push k (b ∷ blocks) block =
    ap (λ l. (Write 0 k, b, 2048) ∷ l)
    (put_push (suc k) blocks block ∙ ap (λ n. put_in (suc k) blocks ++ (Write 0 n, block, 2048) ∷ []) (omega arith))

pub put_more : (blocks : List (List ℕ)) (i : ℕ) → i < length blocks → put_in 0 (take (i + 1) blocks) ≡ put_in 0 (take i blocks) ++ (Write 0 i, get_or blocks i [], 2048) ∷ []
put_more blocks i few =
    let n : 0 + length (take i blocks) ≡ i = omega (arith, length-take-le i blocks (omega (arith, few))) in
    ap (put_in 0) (take_more blocks i [] few) ∙ put_push 0 (take i blocks) (get_or blocks i [])
    ∙ ap (λ m. put_in 0 (take i blocks) ++ (Write 0 m, get_or blocks i [], 2048) ∷ []) n

pub reads_end : (k n : ℕ) → reads_from k n ≡ got_out k n ++ bare Shut ∷ []
reads_end k zero = refl
reads_end k (suc n) = ap (λ l. (Read k, replicate 512 0, 2048) ∷ l) (reads_end (suc k) n)

got_push : (k n : ℕ) → got_out k (suc n) ≡ got_out k n ++ (Read (k + n), replicate 512 0, 2048) ∷ []
got_push k zero = ap (λ m. (Read m, replicate 512 0, 2048) ∷ []) (omega arith)
got_push k (suc n) =
    ap (λ l. (Read k, replicate 512 0, 2048) ∷ l)
    (got_push (suc k) n ∙ ap (λ m. got_out (suc k) n ++ (Read m, replicate 512 0, 2048) ∷ []) (omega arith))

got_more : (n : ℕ) → got_out 0 (n + 1) ≡ got_out 0 n ++ (Read n, replicate 512 0, 2048) ∷ []
got_more n =
    let one : n + 1 ≡ suc n = omega arith in
    let none : 0 + n ≡ n = omega arith in
    ap (got_out 0) one ∙ got_push 0 n ∙ ap (λ m. got_out 0 n ++ (Read m, replicate 512 0, 2048) ∷ []) none

pub got_step : (list list' : List Entry) (e : Entry) (n : ℕ) → asked e ≡ (Read n, replicate 512 0, 2048) → map asked list ≡ bare Open ∷ got_out 0 n → list' ≡ list ++ e ∷ []
    → map asked list' ≡ bare Open ∷ got_out 0 (n + 1)
got_step list list' e n asks sofar more =
    ap (map asked) more ∙ map-append asked list (e ∷ []) ∙ ap (λ l. l ++ asked e ∷ []) sofar ∙ ap (λ a. (bare Open ∷ got_out 0 n) ++ a ∷ []) asks
    ∙ ap (λ l. bare Open ∷ l) (sym (got_more n))

with_before : (call : Call) (block : List ℕ) (xs ys : List (List ℕ)) → with_block call block (xs ++ ys) ≡ with_block call block xs ++ ys
with_before (Read n) block xs ys = refl
with_before _ block xs ys = refl

back_push : (es : List Entry) (e : Entry) → blocks_read (es ++ e ∷ []) ≡ blocks_read es ++ with_block e.call e.block.items []
back_push [] e = refl
back_push (x ∷ es) e =
    ap (with_block x.call x.block.items) (back_push es e) ∙ with_before x.call x.block.items (blocks_read es) (with_block e.call e.block.items [])

-- what an entry adds
pub back_more : (es : List Entry) (i : ℕ) (e : Entry) → i < length es → e ≡ get_or es i e → blocks_read (take (i + 1) es) ≡ blocks_read (take i es) ++ with_block e.call e.block.items []
back_more es i e few is =
    ap blocks_read (take_more es i e few ∙ ap (λ x. take i es ++ x ∷ []) (sym is)) ∙ back_push (take i es) e

pub whole_at : (es : List Entry) (i : ℕ) (e : Entry) → i < length es → e ≡ get_or es i e → AreasWhole es → whole_area e.call e.block.items
whole_at [] i e few is whole = absurd (omega (arith, few))
whole_at (x ∷ es) zero e few is whole = subst (λ (y : Entry). whole_area y.call y.block.items) (sym is) whole.0
whole_at (x ∷ es) (suc i) e few is whole = whole_at es i e (le_of_suc-le-suc few) is whole.1

-- a read adds its area
pub read_adds : (call : Call) (n : ℕ) (block : List ℕ) (xs : List (List ℕ)) → call ≡ Read n → with_block call block xs ≡ block ∷ xs
read_adds call n block xs is = ap (λ c. with_block c block xs) is

pub read_whole : (call : Call) (n : ℕ) (block : List ℕ) → call ≡ Read n → whole_area call block → length block ≡ 512
read_whole call n block is whole = subst (λ c. whole_area c block) is whole

-- and no other call adds anything
pub other_adds : (call : Call) (block : List ℕ) (xs : List (List ℕ)) → ((n : ℕ) → call ≡ Read n → ⊥) → with_block call block xs ≡ xs
other_adds (Read n) block xs other = absurd (other n refl)
other_adds _ block xs other = refl
