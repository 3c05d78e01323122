-- One run after the other, and what is printed of them.
use Rattle.std.proofs.Common.{◌≡◌, ℕ, ◌+◌, ◌<◌, ◌≤◌, Bool, false, Option, None, Some, List, [], ◌∷◌, ◌++◌, length, get_or, map, take, refl, sym, ap, subst, ◌∙◌, append_assoc, arith, length-append, MatchOption}
use Rattle.std.specs.Prelude.{is_some, not, vec_items}
use Rattle.std.proofs.lemmas.List.{append-nil, length-map, length-replicate, take_all, take_more}
use Rattle.std.specs.Borrow.{Bor}
use Rattle.device.specs.declared.crooked.Crooked.{Crooked}
use Rattle.device.specs.declared.crooked.Listed.{Listed}
use Rattle.device.specs.declared.crooked.Manner.{Manner}
use Rattle.device.specs.declared.device.Device
use Rattle.device.specs.declared.source.Source
use Rattle.device.specs.Crooked.{crooked_by}
use Rattle.digest.specs.declared.hash.Hash
use Rattle.digest.specs.declared.sha256.SaltedSha256.{SaltedSha256}
use Rattle.digest.specs.declared.siphash.SipHash.{SipHash}
use Rattle.label.specs.Label.{sheet_volume, volume_of}
use Rattle.sim.specs.declared.Sim.{Sim}
use Rattle.sim.specs.Block.{sim_block}
use Rattle.subscriber.specs.declared.sheet.Sheet.{Sheet}
use Rattle.subscriber.specs.declared.tray.HashChoice.{HashChoice}
use Rattle.subscriber.specs.declared.tray.HashChoice.TheVariants as choice
use Rattle.trial.specs.declared.drilling.Run.{Run}
use Rattle.trial.specs.declared.reads.Tally.{Tally}
use Rattle.trial.specs.Drill.{AllRan, DrilledUnder, Drills, Ran, Tallied, accepted_reads, bad_line, counts_line, heading, last_of, listed, refused_lines, run_text, runs}
use Rattle.trial.specs.Trial.{card_device, card_source, sha256_ghosts, siphash_ghosts}
use Rattle.volume.specs.declared.entry.Entry.{Entry}

-- what is listed, as a slice
pub listed_is : (block : ℕ) (manner : Option Manner) (o : Option Listed) (l : List Listed) → MatchOption o (listed block manner ≡ []) (λ entry. listed block manner ≡ entry ∷ []) → MatchOption o (l ≡ []) (λ entry. l ≡ entry ∷ [])
    → l ≡ listed block manner
listed_is block manner None l is sliced = sliced ∙ sym is
listed_is block manner (Some entry) l is sliced = sliced ∙ sym is

-- a crooked device that was made over a list
pub lists_is : {D : Type 0} (s : Crooked D) (l : Bor (List Listed)) (below : D) → s ≡ crooked_by l below → s.listed.now ≡ l.now
lists_is s l below made = ap (λ (x : Crooked _). x.listed.now) made

-- the three parts of what is printed of a run
pub text_is : (run : Run) (written : List (List ℕ)) (answered : List Entry) (t : Tally) (start headed counted next : List ℕ) → Tallied written answered t → headed ≡ start ++ heading run
    → counted ≡ headed ++ counts_line t.right (length (vec_items t.refused)) → next ≡ counted ++ refused_lines (vec_items t.refused) → next ≡ start ++ run_text run answered
unfolding run_text
text_is run written answered t start headed counted next tallied first second third =
    let lines = refused_lines (vec_items t.refused) in
    let line = counts_line t.right (length (vec_items t.refused)) in
    third ∙ ap (λ l. l ++ lines) second ∙ append_assoc headed line lines ∙ ap (λ l. l ++ (line ++ lines)) first ∙ append_assoc start (heading run) (line ++ lines)
    ∙ ap (λ n. start ++ (heading run ++ (counts_line n (length (vec_items t.refused)) ++ lines))) tallied.right
    ∙ ap (λ rs. start ++ (heading run ++ (counts_line (accepted_reads answered) (length rs) ++ refused_lines rs))) tallied.refused

module _ {A H : Type 0} (source : Source.Ghosts A) (device : Device.Ghosts A) (hash : Hash.Ghosts H) (number : ℕ) (h : H) (sims written : List (List ℕ)) where
  ran_push : (rs : List Run) (text : List ℕ) (run : Run) (answered : List Entry) → AllRan source device hash number h sims written rs text → Ran source device hash number h sims written run answered
      → AllRan source device hash number h sims written (rs ++ run ∷ []) (text ++ run_text run answered)
  ran_push [] text run answered all ran =
      record { answered = answered; ran = ran; others = []; printed = ap (λ l. l ++ run_text run answered) all ∙ sym (append-nil (run_text run answered)); then = refl }
  ran_push (r ∷ rs) text run answered all ran =
      record {
        answered = all.answered;
        ran = all.ran;
        others = all.others ++ run_text run answered;
        printed = ap (λ l. l ++ run_text run answered) all.printed ∙ append_assoc (run_text r all.answered) all.others (run_text run answered);
        then = ran_push rs all.others run answered all.then ran;
      }

  -- a run more, after the start of a report
  pub record Sofar (start : List ℕ) (rs : List Run) (text : List ℕ) : Type 0 where
    pub rest : List ℕ
    pub printed : text ≡ start ++ rest
    pub all_ran : AllRan source device hash number h sims written rs rest

  pub sofar_more : (start : List ℕ) (rs : List Run) (i : ℕ) (d : Run) (text next : List ℕ) (answered : List Entry) → Sofar start (take i rs) text → Ran source device hash number h sims written (get_or rs i d) answered
      → next ≡ text ++ run_text (get_or rs i d) answered → i < length rs → Sofar start (take (i + 1) rs) next
  sofar_more start rs i d text next answered before ran now few =
      let P : List Run → Type 0 = λ l. Sofar start l next in
      let r = get_or rs i d in
      subst P (sym (take_more rs i d few)) (record {
        rest = before.rest ++ run_text r answered;
        printed = now ∙ ap (λ l. l ++ run_text r answered) before.printed ∙ append_assoc start before.rest (run_text r answered);
        all_ran = ran_push (take i rs) before.rest r answered before.all_ran ran;
      })

  pub all_of : (rs : List Run) (i : ℕ) (text : List ℕ) → length rs ≤ i → AllRan source device hash number h sims written (take i rs) text → AllRan source device hash number h sims written rs text
  all_of rs i text all ran = let P : List Run → Type 0 = λ l. AllRan source device hash number h sims written l text in subst P (take_all i rs all) ran

-- no card is bad, or some is
pub still_none : {X : Type 0} (o : Option X) (b : Bool) → is_some o ≡ not b → b ≡ false → o ≡ None → ⊥
still_none None b is some none = absurd (cc (is ∙ ap not some))
still_none (Some x) b is some none = absurd (cc none)

-- the blocks of the SIMs are those at the front of a sheet's volume
pub sims_in_front : (sims : List Sim) (blocks n : ℕ) (contents : List (List ℕ)) → n ≡ length sims → contents ≡ volume_of sims blocks → take n contents ≡ map sim_block sims
sims_in_front sims blocks n contents many is = ap (λ k. take k contents) many ∙ ap (take (length sims)) is ∙ front sims _
  where
    front : (ss : List Sim) (others : List (List ℕ)) → take (length ss) (map sim_block ss ++ others) ≡ map sim_block ss
    front [] others = refl
    front (s ∷ ss) others = ap (λ l. sim_block s ∷ l) (front ss others)

-- a sheet has no more SIMs than blocks
pub as_many : (sims : List Sim) (blocks : ℕ) → length sims ≤ blocks → length (volume_of sims blocks) ≡ blocks
as_many sims blocks few = simp (length-append, length-map, length-replicate) (omega arith)

pub under_sheet : {H : Type 0} (hash : Hash.Ghosts H) (h : H) (s : Sheet) (sims written : List (List ℕ)) (rest text : List ℕ) → length (vec_items s.sims) ≤ s.blocks.value → sims ≡ map sim_block (vec_items s.sims) → written ≡ sheet_volume s
    → text ≡ bad_line (last_of written) ++ rest → AllRan card_source card_device hash s.tray.value h sims written runs rest → DrilledUnder hash h s text
under_sheet hash h s sims written rest text few first all printed ran =
    let P : List (List ℕ) → Type 0 = λ l. AllRan card_source card_device hash s.tray.value h l written runs rest in
    let Q : List (List ℕ) → Type 0 = λ l. AllRan card_source card_device hash s.tray.value h (map sim_block (vec_items s.sims)) l runs rest in
    record { blocks = as_many (vec_items s.sims) s.blocks.value few; rest = rest; printed = printed ∙ ap (λ l. bad_line (last_of l) ++ rest) all; all_ran = subst Q all (subst P first ran) }

-- under the hash that a sheet names
pub by_sha256 : (s : Sheet) (named : HashChoice) (salt : List ℕ) (h : SaltedSha256) (text printed : List ℕ) → named ≡ choice.Sha256 salt → h.salt ≡ salt → text ≡ printed → DrilledUnder sha256_ghosts h s printed → Drills s named text
by_sha256 s named salt h text printed is same shown drilled =
    let P : HashChoice → Type 0 = λ c. Drills s c text in
    let Q : List ℕ → Type 0 = λ l. DrilledUnder sha256_ghosts (record { salt = l }) s text in
    let R : List ℕ → Type 0 = λ l. DrilledUnder sha256_ghosts h s l in
    subst P (sym is) (subst Q same (subst R (sym shown) drilled))

pub by_siphash : (s : Sheet) (named : HashChoice) (key : List ℕ) (h : SipHash) (text printed : List ℕ) → named ≡ choice.SipHash key → h.key ≡ key → text ≡ printed → DrilledUnder siphash_ghosts h s printed → Drills s named text
by_siphash s named key h text printed is same shown drilled =
    let P : HashChoice → Type 0 = λ c. Drills s c text in
    let Q : List ℕ → Type 0 = λ l. DrilledUnder siphash_ghosts (record { key = l }) s text in
    let R : List ℕ → Type 0 = λ l. DrilledUnder siphash_ghosts h s l in
    subst P (sym is) (subst Q same (subst R (sym shown) drilled))
