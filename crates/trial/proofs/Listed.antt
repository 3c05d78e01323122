-- The lists of calls that put blocks in and read them, carried out on sound devices: all is accepted, and what is read is there.
use Rattle.std.proofs.Common.{◌≡◌, ℕ, zero, suc, ◌+◌, ◌<◌, ◌≤◌, true, false, All, Option, Some, None, List, [], ◌∷◌, ◌++◌, length, map, drop, replicate, set, Ok, refl, sym, ap, ◌∙◌, subst, length-set, drop-cons, drop_of_length-le, arith}
use Rattle.std.proofs.lemmas.List.{length-replicate}
use Rattle.tree.specs.Layout.{root_of}
use Rattle.volume.specs.declared.entry.Call.{Call}
use Rattle.volume.specs.declared.entry.Call.TheVariants.{Open, Begin, Read, Write, Keep, Shut}
use Rattle.volume.specs.declared.entry.Entry.{Entry}
use Rattle.volume.specs.declared.slip.Slip.{Slip}
use Rattle.volume.specs.Ledger.{Ledger, afresh}
use Rattle.volume.specs.Parts.{Holds}
use Rattle.volume.specs.Promise.{AreSound, Counts, NoSlip, Start}
use Rattle.volume.specs.Replay.{Entries, Replayed, moved}
use Rattle.volume.specs.Slips.{slip_with}
use Rattle.volume.specs.Story as story
use Rattle.volume.specs.Story.{State, begins, keeps, opens, reads, shuts, writes}
use Rattle.volume.specs.View.{Base, view}
use Rattle.volume.proofs.Counted.{same_counts, story_leaves}
use Rattle.volume.proofs.Outcomes.{Lawful}
use Rattle.volume.proofs.Promised.{promise}
use Rattle.trial.specs.Lists.{AllAccepted, asked, blocks_read, read_list, reads_from, with_block, write_list, writes_from}
use Rattle.trial.proofs.Led.{Ahead, Led, Next, next, none_ahead}
use Rattle.trial.proofs.PutIn.{put_from_first, put_in}

-- the ledger of an open volume with these contents, and with a slip out
abbrev writing : List (List ℕ) → List (List ℕ) → Ledger
writing contents kept = record { contents = contents; kept = kept; is_open = true; slip_out = true }

-- the ledger of an open volume with these contents, kept
abbrev reading : List (List ℕ) → Ledger
reading contents = record { contents = contents; kept = contents; is_open = true; slip_out = false }

module _ {D T H : Type 0} (b : Base D T H) where
  -- the rest of a list was accepted whole, and this is the ledger after it
  pub record Went (w : State D T H) (contents : List (List ℕ)) (l : Ledger) (es' : List Entry) (w' : State D T H) : Type 0 where
    pub accepted : AllAccepted es'
    pub led : Led b w contents l w'

  pub record WentRead (w : State D T H) (contents : List (List ℕ)) (l : Ledger) (blocks : List (List ℕ)) (es' : List Entry) (w' : State D T H) : Type 0 where
    pub went : Went w contents l es' w'
    pub gave : blocks_read es' ≡ blocks

module _ {D T H : Type 0} (b : Base D T H) (lawful : Lawful b) (w : State D T H) (contents : List (List ℕ)) where
  abbrev number : ℕ
  number = w.volume.number

  abbrev taken : List (Option Slip)
  taken = Some (slip_with number) ∷ []

  -- entries still ahead, of a list that asks for these calls
  record Asking (v : State D T H) (pl : List (Option Slip)) (calls : List (Call × List ℕ × ℕ)) (es' : List Entry) (pl' : List (Option Slip)) (w' : State D T H)
      : Type 0
    where
      pub es : List Entry
      pub asks : map asked es ≡ calls
      pub ahead : Ahead b number v pl es es' pl' w'

  rest_of : {l : Ledger} {pl : List (Option Slip)} {call : story.Call} {pl' : List (Option Slip)} {w' : State D T H} {c : Call} {block : List ℕ}
      {calls : List (Call × List ℕ × ℕ)} {es' : List Entry} (n : Next b w contents l number pl call pl' w' c block calls es')
      → Asking n.between (moved number pl (Ok tt) c) calls n.others pl' w'
  rest_of n = record { es = n.rest; asks = n.asks; ahead = n.ahead }

  -- the volume stays the one that it was
  pub led_number : {l : Ledger} {v : State D T H} → Led b w contents l v → v.volume.number ≡ w.volume.number
  led_number {l} {v} led = (story_leaves b lawful led.ms w v led.from.from.story).number

  pub led_counts : {l : Ledger} {v : State D T H} (n : ℕ) → Led b w contents l v → Counts (view b w.volume) n → Counts (view b v.volume) n
  led_counts {l} {v} n led counts = same_counts n (story_leaves b lawful led.ms w v led.from.from.story) counts

  -- the register has the root of what the ledger has kept
  pub led_register : {l : Ledger} {v : State D T H} → Led b w contents l v → Holds v.register (length contents) b.hash.KIND (root_of (view b w.volume).image l.kept)
  led_register {l} {v} led =
      subst (λ x. Holds v.register (length contents) b.hash.KIND (root_of (view b w.volume).image x.kept)) led.is
      ((promise b lawful).right_if_sound w v contents led.ms led.from).register

  -- a start is a story with no calls
  pub starts : Start (view b w.volume) w.register contents → AreSound (view b w.volume) → Led b w contents (afresh contents) w
  starts start sound = record { ms = []; from = record { from = record { start = start; story = refl }; sound = sound; no_leave = tt }; is = refl }

  module _ (w' : State D T H) where
    -- the calls that are accepted, each where nothing is wanting of it
    module _ (v : State D T H) (l : Ledger) (pl pl' : List (Option Slip)) (calls : List (Call × List ℕ × ℕ)) (es' : List Entry) (led : Led b w contents l v) where
      open_next : l.is_open ≡ false → Counts (view b w.volume) (length l.contents) → Asking v pl ((Open, [], 0) ∷ calls) es' pl' w'
          → Next b w contents l number pl opens pl' w' Open [] calls es'
      open_next closed counts a =
          next b lawful w v w' contents l number pl pl' opens led refl Open [] 0 calls a.es es' a.asks a.ahead refl
          (λ m area log. (closed, led_counts (length l.contents) led counts))

      shut_next : NoSlip l → Asking v pl ((Shut, [], 0) ∷ calls) es' pl' w' → Next b w contents l number pl shuts pl' w' Shut [] calls es'
      shut_next may a = next b lawful w v w' contents l number pl pl' shuts led refl Shut [] 0 calls a.es es' a.asks a.ahead refl (λ m area log. may)

      read_next : (k : ℕ) (block : List ℕ) → length block ≡ 512 → l.is_open ≡ true → k < length l.contents → Asking v pl ((Read k, block, 2048) ∷ calls) es' pl' w'
          → Next b w contents l number pl (reads k) pl' w' (Read k) block calls es'
      read_next k block long is_open inside a =
          next b lawful w v w' contents l number pl pl' (reads k) led refl (Read k) block 2048 calls a.es es' a.asks a.ahead refl
          (λ m area log. record { is_open = is_open; existing = inside; block_area = ap length area ∙ long; record_area = log })

    module _ (v : State D T H) (l : Ledger) (pl' : List (Option Slip)) (calls : List (Call × List ℕ × ℕ)) (es' : List Entry) (led : Led b w contents l v) where
      begin_next : NoSlip l → Asking v (None ∷ []) ((Begin 0, [], 0) ∷ calls) es' pl' w' → Next b w contents l number (None ∷ []) begins pl' w' (Begin 0) [] calls es'
      begin_next may a =
          next b lawful w v w' contents l number (None ∷ []) pl' begins led refl (Begin 0) [] 0 calls a.es es' a.asks a.ahead refl (λ m area log. may)

      write_next : (k : ℕ) (block : List ℕ) → length block ≡ 512 → l.is_open ≡ true → l.slip_out ≡ true → k < length l.contents
          → Asking v taken ((Write 0 k, block, 2048) ∷ calls) es' pl' w' → Next b w contents l number taken (writes number k) pl' w' (Write 0 k) block calls es'
      write_next k block long is_open out inside a =
          next b lawful w v w' contents l number taken pl' (writes number k) led refl (Write 0 k) block 2048 calls a.es es' a.asks a.ahead refl
          (λ m area log. (
            record { is_open = is_open; existing = inside; block_area = ap length area ∙ long; record_area = log },
            record { number = sym (led_number led); one_out = out },
          ))

      keep_next : l.slip_out ≡ true → Asking v taken ((Keep 0, [], 0) ∷ calls) es' pl' w' → Next b w contents l number taken (keeps number) pl' w' (Keep 0) [] calls es'
      keep_next out a =
          next b lawful w v w' contents l number taken pl' (keeps number) led refl (Keep 0) [] 0 calls a.es es' a.asks a.ahead refl
          (λ m area log. record { number = sym (led_number led); one_out = out })

    -- one entry, and then the rest
    went_on : {l : Ledger} {es' : List Entry} (e : Entry) (others : List Entry) → es' ≡ e ∷ others → e.answer ≡ Some (Ok tt) → Went b w contents l others w'
        → Went b w contents l es' w'
    went_on e others is answered went = record { accepted = subst AllAccepted (sym is) (answered, went.accepted); led = went.led }

    -- an entry with this call, and what it makes of the blocks that were read
    read_on : {l : Ledger} {blocks : List (List ℕ)} {es' : List Entry} (e : Entry) (others : List Entry) (c : Call) → es' ≡ e ∷ others → e.answer ≡ Some (Ok tt)
        → e.call ≡ c → WentRead b w contents l blocks others w' → WentRead b w contents l (with_block c e.block.items blocks) es' w'
    read_on {l} {blocks} e others c is answered same r =
        record {
          went = went_on e others is answered r.went;
          gave = ap blocks_read is ∙ ap (with_block e.call e.block.items) r.gave ∙ ap (λ x. with_block x e.block.items blocks) same;
        }

    -- a shut, last
    shuts_last : (v : State D T H) (l : Ledger) (pl pl' : List (Option Slip)) (es' : List Entry) → Led b w contents l v → NoSlip l
        → Asking v pl ((Shut, [], 0) ∷ []) es' pl' w' → WentRead b w contents (record l { is_open = false }) [] es' w'
    shuts_last v l pl pl' es' led may a =
        let n = shut_next v l pl pl' [] es' led may a in
        let none = none_ahead b lawful n.asks n.ahead in
        let last : Led b w contents (record l { is_open = false }) w' = subst (Led b w contents (record l { is_open = false })) (sym none.1) n.led in
        read_on n.entry [] Shut (n.is ∙ ap (λ x. n.entry ∷ x) none.0) n.answered n.same_call (record { went = record { accepted = tt; led = last }; gave = refl })

    -- these blocks are put in from block k on, and kept
    writes_so : (blocks : List (List ℕ)) (k : ℕ) (c kept : List (List ℕ)) (v : State D T H) (pl' : List (Option Slip)) (es' : List Entry) → k + length blocks ≤ length c
        → All (λ x. length x ≡ 512) blocks → Led b w contents (writing c kept) v → Asking v taken (writes_from k blocks) es' pl' w'
        → Went b w contents (afresh (put_in c k blocks)) es' w'
    writes_so [] k c kept v pl' es' fits whole led a =
        let n = keep_next v (writing c kept) pl' ((Shut, [], 0) ∷ []) es' led refl a in
        went_on n.entry n.others n.is n.answered
        (shuts_last n.between (reading c) (None ∷ []) pl' n.others n.led (record { is_open = refl; none_out = refl }) (rest_of n)).went
    writes_so (block ∷ blocks) k c kept v pl' es' fits whole led a =
        let n = write_next v (writing c kept) pl' (writes_from (suc k) blocks) es' led k block (whole 0 [] (omega arith)) refl refl (omega (arith, fits)) a in
        went_on n.entry n.others n.is n.answered
        (writes_so blocks (suc k) (set c k block) kept n.between pl' n.others (omega (arith, fits, length-set c k block))
        (λ j d below. whole (suc j) d (omega (arith, below))) n.led (rest_of n))

    -- a list that puts blocks in, carried out from a start on sound devices
    pub writes_accepted : (sims : List (List ℕ)) (places : List (Option Slip)) (es es' : List Entry) → Start (view b w.volume) w.register contents
        → Counts (view b w.volume) (length contents) → AreSound (view b w.volume) → length sims ≤ length contents → All (λ x. length x ≡ 512) sims
        → map asked es ≡ write_list sims → Replayed b w (None ∷ []) es es' places w' → Went b w contents (afresh (sims ++ drop (length sims) contents)) es' w'
    writes_accepted sims places es es' start counts sound fits whole asks replayed =
        let all : Asking w (None ∷ []) (write_list sims) es' places w' =
        record { es = es; asks = asks; ahead = record { made = replayed.made; run = replayed.run; entries = replayed.entries } } in
        let o = open_next w (afresh contents) (None ∷ []) places ((Begin 0, [], 0) ∷ writes_from 0 sims) es' (starts start sound) refl counts all in
        let n = begin_next o.between (reading contents) places (writes_from 0 sims) o.others o.led (record { is_open = refl; none_out = refl }) (rest_of o) in
        let put = writes_so sims 0 contents contents n.between places n.others (omega (arith, fits)) whole n.led (rest_of n) in
        subst (λ c. Went b w contents (afresh c) es' w') (put_from_first sims contents fits)
        (went_on o.entry o.others o.is o.answered (went_on n.entry n.others n.is n.answered put))

    -- so many blocks are read, from block k on
    reads_so : (n k : ℕ) (filled : List (List ℕ)) (v : State D T H) (pl pl' : List (Option Slip)) (es' : List Entry) → k + n ≡ length filled
        → Led b w contents (reading filled) v → Asking v pl (reads_from k n) es' pl' w' → WentRead b w contents (afresh filled) (drop k filled) es' w'
    reads_so zero k filled v pl pl' es' all led a =
        let past : length filled ≤ k = omega (arith, all) in
        subst (λ l. WentRead b w contents (afresh filled) l es' w') (sym (drop_of_length-le filled past))
        (shuts_last v (reading filled) pl pl' es' led (record { is_open = refl; none_out = refl }) a)
    reads_so (suc n) k filled v pl pl' es' all led a =
        let inside : k < length filled = omega (arith, all) in
        let x = read_next v (reading filled) pl pl' (reads_from (suc k) n) es' led k (replicate 512 0) (length-replicate {A = ℕ} 512 0) refl inside a in
        let same : x.entry.block.items ∷ drop (suc k) filled ≡ drop k filled =
        ap (λ block. block ∷ drop (suc k) filled) (x.gave k refl) ∙ sym (drop-cons filled k [] inside) in
        subst (λ l. WentRead b w contents (afresh filled) l es' w') same
        (read_on x.entry x.others (Read k) x.is x.answered x.same_call (reads_so n (suc k) filled x.between pl pl' x.others (omega (arith, all)) x.led (rest_of x)))

    -- a list that reads all blocks, carried out where such a story has led
    pub reads_accepted : (filled : List (List ℕ)) (v : State D T H) (places : List (Option Slip)) (fs fs' : List Entry) → Counts (view b w.volume) (length filled)
        → Led b w contents (afresh filled) v → map asked fs ≡ read_list (length filled) → Replayed b v (None ∷ []) fs fs' places w'
        → WentRead b w contents (afresh filled) filled fs' w'
    reads_accepted filled v places fs fs' counts led asks replayed =
        let entries : Entries number (None ∷ []) fs fs' replayed.made places =
        subst (λ n. Entries n (None ∷ []) fs fs' replayed.made places) (led_number led) replayed.entries in
        let all : Asking v (None ∷ []) (read_list (length filled)) fs' places w' =
        record { es = fs; asks = asks; ahead = record { made = replayed.made; run = replayed.run; entries = entries } } in
        let o = open_next v (afresh filled) (None ∷ []) places (reads_from 0 (length filled)) fs' led refl counts all in
        let r = reads_so (length filled) 0 filled o.between (None ∷ []) places o.others (omega arith) o.led (rest_of o) in
        read_on o.entry o.others Open o.is o.answered o.same_call r
