-- A good sheet lists what its lines say, each header once and the SIMs in their order.
use Rattle.std.proofs.Common.{◌≡◌, ℕ, ◌+◌, List, [], ◌∷◌, ◌++◌, Some, Ok, Err, vec_items, Result, sym, refl, ◌∙◌, arith}
use Rattle.std.proofs.lemmas.List.{append_assoc, append-nil, length-map}
use Rattle.std.specs.Option.{option_to_list}
use Rattle.sheet_error.specs.declared.cause.Cause.{Cause}
use Rattle.subscriber.specs.declared.tray.HashChoice.{HashChoice}
use Rattle.subscriber.specs.declared.sheet.Sheet.{Sheet}
use Rattle.subscriber.specs.Answer.{plain_sheet}
use Rattle.subscriber.specs.Plain.{entry_of}
use Rattle.subscriber.specs.Items.{Entry, Said, then_ok, line_says}
use Rattle.subscriber.specs.Sheet.{Draft, Whole, empty, whole, next, after_line, at_line, read_from, sheet_of, gathered, a_tray, a_hash, a_count, a_sim, Listed}
use Rattle.subscriber.specs.Text.{lines}

at_made : {A : Type 0} (n : ℕ) (r : Result A Cause) (y : A) → at_line n r ≡ Ok y → r ≡ Ok y
at_made n r y p = grind arith

-- what was made was made from something
then_made : {A B E : Type 0} (r : Result A E) (f : A → Result B E) (y : B) → then_ok r f ≡ Ok y → (x : A) × (r ≡ Ok x) × (f x ≡ Ok y)
then_made (Ok x) f y p = (x, refl, p)
then_made (Err e) f y p = absurd (cc)

-- the parts of f are those of d, and what is added to each
record Grown (d : Draft) (t : List ℕ) (h : List HashChoice) (b : List ℕ) (es : List Entry) (f : Draft) : Type 0 where
  tray : option_to_list f.tray ≡ option_to_list d.tray ++ t
  hash : option_to_list f.hash ≡ option_to_list d.hash ++ h
  blocks : option_to_list f.blocks ≡ option_to_list d.blocks ++ b
  sims : f.sims ≡ d.sims ++ es

-- what a line adds
grown : (d : Draft) (s : Said) (f : Draft) → next d s ≡ Ok f → Grown d (a_tray s) (a_hash s) (a_count s) (a_sim s) f
grown d s f p = record { tray = grind (arith, append-nil); hash = grind (arith, append-nil); blocks = grind (arith, append-nil); sims = grind (arith, append-nil) }

-- a sheet has what its draft has
abbrev draft : Whole → Draft
draft w = record { tray = Some w.tray; hash = Some w.hash; blocks = Some w.blocks; sims = w.sims }

whole_draft : (d : Draft) (n : ℕ) (w : Whole) → at_line n (whole d) ≡ Ok w → draft w ≡ d
whole_draft d n w p = grind arith

-- what the lines from here on add
added : (ls : List (List ℕ)) (n : ℕ) (d : Draft) (w : Whole) → read_from n d ls ≡ Ok w → Grown d (gathered a_tray ls) (gathered a_hash ls) (gathered a_count ls) (gathered a_sim ls) (draft w)
added [] n d w p = let same = whole_draft d n w p in record { tray = grind (arith, append-nil); hash = grind (arith, append-nil); blocks = grind (arith, append-nil); sims = grind (arith, append-nil) }
added (l ∷ ls) n d w p =
    let line = then_made (at_line n (after_line d l)) (λ e. read_from (n + 1) e ls) w p in
    let said = then_made (line_says l) (next d) line.0 (at_made n (after_line d l) line.0 line.1) in
    let one = grown d said.0 line.0 said.2 in
    let others = added ls (n + 1) line.0 w line.2 in
    record {
      tray = others.tray ∙ simp (one.tray, append_assoc, said.1);
      hash = others.hash ∙ simp (one.hash, append_assoc, said.1);
      blocks = others.blocks ∙ simp (one.blocks, append_assoc, said.1);
      sims = others.sims ∙ simp (one.sims, append_assoc, said.1);
    }

pub sheet_listed : (text : List ℕ) (s : Sheet) → sheet_of text ≡ Ok (plain_sheet s) → Listed text (plain_sheet s)
unfolding sheet_of
sheet_listed text s p =
    let all = added (lines text) 1 empty (plain_sheet s) p in
    record { tray = sym all.tray; hash = sym all.hash; blocks = sym all.blocks; sims = sym all.sims; few = omega (arith, s.few, s.sims.ok.0, length-map (vec_items s.sims) entry_of) }
