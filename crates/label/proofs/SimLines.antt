-- The line of one block more, and the lines of the blocks of SIMs.
use Rattle.std.proofs.Common.{◌≡◌, ℕ, suc, ◌+◌, ◌<◌, Option, None, Some, List, [], ◌∷◌, ◌++◌, map, length, get_or, take, inl, inr, refl, sym, ap, subst, ◌∙◌, append_assoc, arith}
use Rattle.std.specs.List.{AllZip, PartBy}
use Rattle.std.specs.Option.{unwrap_or}
use denote.Ref.{Bor}
use Rattle.std.proofs.lemmas.Grind.{common_steps}
use Rattle.std.proofs.lemmas.List.{take_all, take_more, length-take-le}
use Rattle.sim.specs.Block.{sim_block}
use Rattle.sim.specs.declared.Sim.{Sim}
use Rattle.label.specs.Label.{volume_of}
use Rattle.geometry.specs.Geometry.{levels, total}
use Rattle.label.specs.Report.{AddsLines, ReportFrom, Says, found_lines, head_line, label_line, line_of, report_with, sim_line, sim_lines, tree_line}

lines_push : (j : ℕ) (founds : List (Option Sim)) (found : Option Sim) → found_lines j (founds ++ found ∷ []) ≡ found_lines j founds ++ line_of (j + length founds) found
lines_push j [] found = grind (arith, common_steps)
lines_push j (x ∷ founds) found = grind (arith, common_steps, lines_push (j + 1) founds found)

said_push : (blocks : List (List ℕ)) (founds : List (Option Sim)) (block : List ℕ) (found : Option Sim) → AllZip Says blocks founds → Says block found
    → AllZip Says (blocks ++ block ∷ []) (founds ++ found ∷ [])
said_push [] [] block found all says = (says, tt)
said_push [] (x ∷ founds) block found all says = absurd all
said_push (b ∷ blocks) [] block found all says = absurd all
said_push (b ∷ blocks) (x ∷ founds) block found all says = (all.0, said_push blocks founds block found all.1 says)

as_many : (blocks : List (List ℕ)) (founds : List (Option Sim)) → AllZip Says blocks founds → length blocks ≡ length founds
as_many [] [] all = refl
as_many [] (x ∷ founds) all = absurd all
as_many (b ∷ blocks) [] all = absurd all
as_many (b ∷ blocks) (x ∷ founds) all = ap suc (as_many blocks founds all.1)

pub lines_more : (blocks : List (List ℕ)) (k : ℕ) (before text after : List ℕ) (found : Option Sim) → k < length blocks → Says (get_or blocks k []) found
    → AddsLines (take k blocks) before text → after ≡ text ++ line_of k found → AddsLines (take (k + 1) blocks) before after
lines_more blocks k before text after found few says sofar more = record {
  found = sofar.found ++ found ∷ [];
  says = subst (λ l. AllZip Says l (sofar.found ++ found ∷ [])) (sym (take_more blocks k [] few)) (said_push (take k blocks) sofar.found (get_or blocks k []) found sofar.says says);
  text =
      let long : 0 + length sofar.found ≡ k = omega (arith, as_many (take k blocks) sofar.found sofar.says, length-take-le k blocks (omega (arith, few))) in
      more ∙ ap (λ t. t ++ line_of k found) sofar.text ∙ append_assoc before (found_lines 0 sofar.found) (line_of k found)
      ∙ ap (λ n. before ++ (found_lines 0 sofar.found ++ line_of n found)) (sym long) ∙ ap (λ t. before ++ t) (sym (lines_push 0 sofar.found found));
}

-- the blocks at the front of a slice, or all of them where there are no more
pub at_front : (s : Bor (List (List ℕ))) (r : Option (Bor (List (List ℕ)))) (n : ℕ) → PartBy (λ (x : Bor (List (List ℕ))). x.now) s.now 0 n r → (unwrap_or r s).now ≡ take n s.now
at_front s None n part = elim part.0 [ inl below ↦ absurd (omega (arith, below)) | inr few ↦ sym (take_all n s.now (omega (arith, few))) ]
at_front s (Some x) n part = let is = part.0.2 in grind (arith, common_steps, is)

joined : (start h lines t l t1 t2 t3 t4 : List ℕ) → start ≡ [] → t1 ≡ start ++ h → t2 ≡ t1 ++ lines → t3 ≡ t2 ++ t → t4 ≡ t3 ++ l → t4 ≡ h ++ (lines ++ (t ++ l))
joined start h lines t l t1 t2 t3 t4 none e1 e2 e3 e4 = grind (arith, common_steps)

-- a report that is put together
pub whole : (tray blocks sims : ℕ) (contents : List (List ℕ)) (kind : ℕ) (root start t1 t2 t3 text : List ℕ) (part : List (List ℕ)) (count : ℕ) → part ≡ take sims contents → count ≡ blocks
    → start ≡ [] → t1 ≡ start ++ head_line tray sims blocks → AddsLines part t1 t2 → t3 ≡ t2 ++ tree_line (levels count) (total count) → text ≡ t3 ++ label_line kind root
    → ReportFrom tray blocks sims contents kind root text
whole tray blocks sims contents kind root start t1 t2 t3 text part count front same none head adds tree label = record {
  found = adds.found;
  says = subst (λ l. AllZip Says l adds.found) front adds.says;
  is =
      joined start (head_line tray sims blocks) (found_lines 0 adds.found) (tree_line (levels blocks) (total blocks)) (label_line kind root) t1 t2 t3 text none head adds.text
      (subst (λ n. t3 ≡ t2 ++ tree_line (levels n) (total n)) same tree) label;
}

-- the blocks of SIMs say these SIMs
all_found : (sims : List Sim) (founds : List (Option Sim)) → AllZip Says (map sim_block sims) founds → founds ≡ map Some sims
all_found [] [] says = refl
all_found [] (x ∷ founds) says = absurd says
all_found (s ∷ sims) [] says = absurd says
all_found (s ∷ sims) (x ∷ founds) says = λ i. says.0.finds s refl i ∷ all_found sims founds says.1 i

lines_are : (k : ℕ) (sims : List Sim) → found_lines k (map Some sims) ≡ sim_lines k sims
lines_are k [] = refl
lines_are k (s ∷ sims) = ap (λ l. sim_line k s ++ l) (lines_are (k + 1) sims)

sims_at_front : (sims : List Sim) (others : List (List ℕ)) → take (length sims) (map sim_block sims ++ others) ≡ map sim_block sims
sims_at_front [] others = refl
sims_at_front (s ∷ sims) others = ap (λ l. sim_block s ∷ l) (sims_at_front sims others)

-- the report from the volume of a sheet is the report of the sheet
pub of_volume : (tray blocks : ℕ) (sims : List Sim) (contents : List (List ℕ)) (kind : ℕ) (root text : List ℕ) → ReportFrom tray blocks (length sims) contents kind root text
    → contents ≡ volume_of sims blocks → text ≡ report_with tray blocks sims kind root
unfolding report_with
of_volume tray blocks sims contents kind root text from is =
    let front : take (length sims) contents ≡ map sim_block sims = ap (take (length sims)) is ∙ sims_at_front sims _ in
    let lines : found_lines 0 from.found ≡ sim_lines 0 sims = ap (found_lines 0) (all_found sims from.found (subst (λ l. AllZip Says l from.found) front from.says)) ∙ lines_are 0 sims in
    cc (from.is, lines)

says_one : (block : List ℕ) (x y : Option Sim) → Says block x → Says block y → x ≡ y
says_one block None None is also = refl
says_one block x (Some s) is also = is.finds s also.encodes
says_one block (Some s) None is also = sym (also.finds s is.encodes)

all_say_one : (blocks : List (List ℕ)) (xs ys : List (Option Sim)) → AllZip Says blocks xs → AllZip Says blocks ys → xs ≡ ys
all_say_one [] [] [] is also = refl
all_say_one [] [] (y ∷ ys) is also = absurd also
all_say_one [] (x ∷ xs) ys is also = absurd is
all_say_one (b ∷ blocks) [] ys is also = absurd is
all_say_one (b ∷ blocks) (x ∷ xs) [] is also = absurd also
all_say_one (b ∷ blocks) (x ∷ xs) (y ∷ ys) is also = λ i. says_one b x y is.0 also.0 i ∷ all_say_one blocks xs ys is.1 also.1 i

-- the report from these blocks is one text: the contract leaves none of it open
pub one_report : (tray blocks sims : ℕ) (contents : List (List ℕ)) (kind : ℕ) (root text other : List ℕ) → ReportFrom tray blocks sims contents kind root text
    → ReportFrom tray blocks sims contents kind root other → text ≡ other
one_report tray blocks sims contents kind root text other from also =
    let same = all_say_one (take sims contents) from.found also.found from.says also.says in
    from.is ∙ ap (λ f. head_line tray sims blocks ++ (found_lines 0 f ++ (tree_line (levels blocks) (total blocks) ++ label_line kind root))) same ∙ sym also.is
