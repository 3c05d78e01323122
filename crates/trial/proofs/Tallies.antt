-- What became of the calls of a list, one entry more at a time.
use Rattle.std.proofs.Common.{◌≡◌, ℕ, ◌+◌, ◌<◌, ◌≤◌, List, [], ◌∷◌, ◌++◌, get_or, take, length, refl, sym, ap, subst, ◌∙◌, arith, append_assoc, Option, None, Some, Result, Ok, Err}
use Rattle.std.specs.Prelude.{codes, slice_get, vec_items}
use Rattle.std.proofs.lemmas.List.{take_more}
use Rattle.volume.specs.declared.entry.Call.{Call}
use Rattle.volume.specs.declared.entry.Call.TheVariants.{Read}
use Rattle.volume.specs.declared.entry.Entry.{Entry}
use Rattle.volume.specs.declared.refusal.Refusal.{Refusal}
use Rattle.trial.specs.declared.reads.RefusedRead.{RefusedRead}
use Rattle.trial.specs.declared.reads.Tally.{Tally}
use Rattle.trial.specs.Drill.{AllRight, Tallied, accepted_reads, counted, read_counted, refused, refused_lines, refused_reads, refused_words, right}
use Rattle.trial.specs.Lists.{AllAccepted}

one_more : (es : List Entry) (i : ℕ) (e : Entry) → i < length es → e ≡ get_or es i e → take (i + 1) es ≡ take i es ++ e ∷ []
one_more es i e few is = take_more es i e few ∙ ap (λ x. take i es ++ x ∷ []) (sym is)

accepted_push : (es : List Entry) (e : Entry) → AllAccepted es → e.answer ≡ Some (Ok tt) → AllAccepted (es ++ e ∷ [])
accepted_push [] e all is = (is, tt)
accepted_push (x ∷ es) e all is = (all.0, accepted_push es e all.1 is)

pub accepted_more : (es : List Entry) (i : ℕ) (e : Entry) → i < length es → e ≡ get_or es i e → AllAccepted (take i es) → e.answer ≡ Some (Ok tt) → AllAccepted (take (i + 1) es)
accepted_more es i e few is all one = subst AllAccepted (sym (one_more es i e few is)) (accepted_push (take i es) e all one)

counted_push : (es : List Entry) (e : Entry) → accepted_reads (es ++ e ∷ []) ≡ accepted_reads es + counted e.call e.answer
counted_push [] e = omega arith
counted_push (x ∷ es) e = let rest = counted_push es e in omega (arith, rest)

refused_push : (es : List Entry) (e : Entry) → refused_reads (es ++ e ∷ []) ≡ refused_reads es ++ refused e.call e.answer
refused_push [] e = append_none (refused e.call e.answer)
  where
    append_none : (xs : List RefusedRead) → xs ++ [] ≡ xs
    append_none [] = refl
    append_none (x ∷ xs) = ap (λ l. x ∷ l) (append_none xs)
refused_push (x ∷ es) e = ap (λ l. refused x.call x.answer ++ l) (refused_push es e) ∙ sym (append_assoc (refused x.call x.answer) (refused_reads es) (refused e.call e.answer))

right_push : (written : List (List ℕ)) (es : List Entry) (e : Entry) → AllRight written es → right written e.call e.answer e.block.items → AllRight written (es ++ e ∷ [])
right_push written [] e all one = (one, tt)
right_push written (x ∷ es) e all one = (all.0, right_push written es e all.1 one)

pub tallied_more : (written : List (List ℕ)) (es : List Entry) (i : ℕ) (e : Entry) (t t' : Tally) → i < length es → e ≡ get_or es i e → Tallied written (take i es) t
    → t'.right ≡ t.right + counted e.call e.answer → vec_items t'.refused ≡ vec_items t.refused ++ refused e.call e.answer → right written e.call e.answer e.block.items
    → Tallied written (take (i + 1) es) t'
tallied_more written es i e t t' few is sofar count name one =
    let P : List Entry → Type 0 = λ l. Tallied written l t' in
    subst P (sym (one_more es i e few is)) (record {
      right = count ∙ ap (λ n. n + counted e.call e.answer) sofar.right ∙ sym (counted_push (take i es) e);
      refused = name ∙ ap (λ l. l ++ refused e.call e.answer) sofar.refused ∙ sym (refused_push (take i es) e);
      all_right = right_push written (take i es) e sofar.all_right one;
    })

-- a read that was accepted
pub read_is_right : (written : List (List ℕ)) (call : Call) (n : ℕ) (answer : Option (Result Unit Refusal)) (area : List ℕ) → call ≡ Read n → answer ≡ Some (Ok tt)
    → slice_get written n ≡ Some area → right written call answer area
read_is_right written call n answer area is accepted found =
    let P : Call → Type 0 = λ c. right written c answer area in
    let Q : Option (Result Unit Refusal) → Type 0 = λ a. right written (Read n) a area in
    subst P (sym is) (subst Q (sym accepted) found)

no_more : (xs : List ℕ) → xs ++ [] ≡ xs
no_more [] = refl
no_more (x ∷ xs) = ap (λ l. x ∷ l) (no_more xs)

lines_push : (rs : List RefusedRead) (r : RefusedRead) → refused_lines (rs ++ r ∷ []) ≡ refused_lines rs ++ (refused_words r ++ codes "\n")
lines_push [] r = no_more (refused_words r ++ codes "\n")
lines_push (x ∷ rs) r =
    let line : List ℕ = refused_words x ++ codes "\n" in
    ap (λ l. line ++ l) (lines_push rs r) ∙ sym (append_assoc line (refused_lines rs) (refused_words r ++ codes "\n"))

pub lines_more : (rs : List RefusedRead) (i : ℕ) (r : RefusedRead) (start sofar next : List ℕ) → i < length rs → sofar ≡ start ++ refused_lines (take i rs)
    → next ≡ sofar ++ (refused_words (get_or rs i r) ++ codes "\n") → next ≡ start ++ refused_lines (take (i + 1) rs)
lines_more rs i r start sofar next few before now =
    let line : List ℕ = refused_words (get_or rs i r) ++ codes "\n" in
    now ∙ ap (λ l. l ++ line) before ∙ append_assoc start (refused_lines (take i rs)) line
    ∙ ap (λ l. start ++ l) (sym (lines_push (take i rs) (get_or rs i r)) ∙ ap refused_lines (sym (take_more rs i r few)))

read_most : (answer : Option (Result Unit Refusal)) → read_counted answer ≤ 1
read_most None = omega arith
read_most (Some (Ok done)) = omega arith
read_most (Some (Err refusal)) = omega arith

pub counted_most : (call : Call) (answer : Option (Result Unit Refusal)) → counted call answer ≤ 1
counted_most (Read n) answer = read_most answer
counted_most _ answer = omega arith
