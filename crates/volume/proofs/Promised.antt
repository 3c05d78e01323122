-- The promise of a volume, over every story, and what look reads.
use Rattle.std.proofs.Common.{◌≡◌, ℕ, ◌<◌, ◌≤◌, ◌⊎◌, inl, inr, true, false, cond, Option, None, List, [], ◌∷◌, ◌++◌, length, Ok, refl, sym, ap, ◌∙◌, subst, ⊎_elim, arith}
use Rattle.std.specs.Prelude.{slice_index_or}
use Rattle.device.specs.declared.source.Source
use Rattle.device.specs.Meaning.{KeepsReads}
use Rattle.geometry.specs.Geometry.{total}
use Rattle.tree.specs.Layout.{root_of}
use Rattle.volume.specs.Ledger.{Ledger, NoLeave, accepted, afresh, changed, counts, feed, fed, is_leave}
use Rattle.volume.specs.Promise.{AreSound, Counts, Follows, FromSound, FromStart, HasRoot, LooksExactly, Promise, ReadsRight, Right, Shows, Start, asks, right, shows}
use Rattle.volume.specs.Story.{Alike, Made, State, Step, opens, reads}
use Rattle.volume.specs.View.{Base, Open, view}
use Rattle.volume.specs.Walk.{Fetched}
use Rattle.volume.proofs.Counted.{story_leaves}
use Rattle.volume.proofs.Decided.{look_pass}
use Rattle.volume.proofs.Goes.{goes_shown, goes_sound, path_sound, reached_accepted, sound_accepted}
use Rattle.volume.proofs.Invariant.{Agrees}
use Rattle.volume.proofs.Laws.{fetch_means}
use Rattle.volume.proofs.Meant as meant
use Rattle.volume.proofs.Outcomes.{Lawful}
use Rattle.volume.proofs.Results.{none_not_some}
use Rattle.volume.proofs.Runs.{story_follows, story_shown, story_sound}
use Rattle.volume.proofs.Starts.{format_starts, sound_format}
use Rattle.volume.proofs.Truths.{read_sound}

module _ (image : List ℕ → List ℕ) where
  -- what is shown by a story is shown by one that goes on after it
  shows_before : (ms : List Made) (m : Made) (l : Ledger) → Shows image l ms → Shows image l (ms ++ m ∷ [])
  shows_before [] m l never = absurd never
  shows_before (x ∷ ms) m l shown = ⊎_elim inl (λ later. inr (shows_before ms m (feed l x) later)) shown

  -- and so is what is shown by the call that it goes on with
  shows_last : (ms : List Made) (m : Made) (l : Ledger) → shows image (fed l ms) m → Shows image l (ms ++ m ∷ [])
  shows_last [] m l shown = inl shown
  shows_last (x ∷ ms) m l shown = inr (shows_last ms m (feed l x) shown)

module _ {D T H : Type 0} (b : Base D T H) (lawful : Lawful b) where
  -- a start agrees with a ledger that begins with its contents
  start_follows : (w : State D T H) (contents : List (List ℕ)) → (view b w.volume).present ≡ None → Follows (afresh contents) (view b w.volume)
  start_follows w contents closed = let P : Option Open → Type 0 = λ o. Follows (afresh contents) (record (view b w.volume) { present = o }) in subst P (sym closed) (record { open_alike = refl; slip_alike = refl })

  start_agrees : (Sound : Type 0) (w : State D T H) (contents : List (List ℕ)) → (Sound → AreSound (view b w.volume)) → Start (view b w.volume) w.register contents
      → Agrees (view b w.volume).image b.hash.KIND (length contents) Sound (Unit {0}) (afresh contents) (view b w.volume) w.register
  start_agrees Sound w contents sound start =
      record {
        who = record { same_image = refl; same_kind = refl };
        follows = start_follows w contents start.closed;
        books = record { contents = start.are_contents; kept = start.are_contents; count = refl; count_kept = refl; no_slip = λ is. refl };
        mind = λ p is. absurd (none_not_some p (sym start.closed ∙ is));
        register = start.register;
        cards = record { laid = λ yes. start.laid; sound = sound };
      }

  module _ (w : State D T H) (contents : List (List ℕ)) (ms : List Made) (w' : State D T H) where
    abbrev image : List ℕ → List ℕ
    image = (view b w.volume).image

    wide : (block : List ℕ) → length (image block) ≡ 32
    wide block = lawful.wide w.volume.hash block

    -- what there is after a story
    abbrev After : Type 0 → Type 0
    After Sound = Right (afresh contents) ms × Agrees image b.hash.KIND (length contents) Sound (Unit {0} × NoLeave ms) (fed (afresh contents) ms) (view b w'.volume) w'.register

    after_shown : FromStart b w contents ms w' → After ⊥ ⊎ Shows image (afresh contents) ms
    after_shown from =
        story_shown b lawful image wide b.hash.KIND (length contents) ⊥ ms (Unit {0}) (afresh contents) w w' (start_agrees ⊥ w contents (λ never. absurd never) from.start) from.story

    after_sound : FromSound b w contents ms w' → After (AreSound (view b w.volume))
    after_sound from =
        story_sound b lawful image wide b.hash.KIND (length contents) (AreSound (view b w.volume)) from.sound ms (Unit {0}) (afresh contents) w w' tt
        (start_agrees (AreSound (view b w.volume)) w contents (λ s. s) from.from.start) from.from.story from.no_leave

    module _ (Sound : Type 0) (after : After Sound) where
      reads_right : ReadsRight b w contents ms w'
      reads_right = record { reads = after.0; register = after.1.register }

      has_root : HasRoot (fed (afresh contents) ms) (view b w'.volume)
      has_root p is = (after.1.mind p is).root ∙ ap (λ im. root_of im (fed (afresh contents) ms).contents) (sym after.1.who.same_image)

    -- one more call, of which nothing is wanting
    module _ (m : Made) (v : State D T H) (step : Step b w' m v) (ask : asks (view b w'.volume) (fed (afresh contents) ms) m m.call) where
      sound_goes : FromSound b w contents ms w' → m.answer ≡ Ok tt
      sound_goes from =
          let after = after_sound from in
          let i = after.1 in
          let l = fed (afresh contents) ms in
          let sound = i.cards.sound from.sound in
          let laid = i.cards.laid (tt, from.no_leave) in
          let store_means = lawful.store.reads.means w'.volume.store in
          let tree_means = lawful.tree.reads.means w'.volume.tree in
          sound_accepted b lawful image wide b.hash.KIND (length contents) (AreSound (view b w.volume)) (Unit {0} × NoLeave ms) l w' m v i sound
          (goes_sound image wide l (view b w'.volume) m i.books.contents laid store_means tree_means sound) (path_sound image wide l (view b w'.volume) m i.books.contents laid store_means tree_means sound) m.call refl step ask

  alike_self : (w : State D T H) → Alike b w w
  alike_self w = record { same_view = refl; same_register = refl }

  -- a ledger that was fed an accepted open
  opened_feed : (contents : List (List ℕ)) (o : Made) → o.call ≡ opens → o.answer ≡ Ok tt → feed (afresh contents) o ≡ record (afresh contents) { is_open = true }
  opened_feed contents o is answered =
      (λ k. cond (counts (answered k) (is k)) (changed (afresh contents) o.block (is k)) (afresh contents))

  -- sound devices that are laid out open, and give every block exactly
  module _ (w v w' : State D T H) (contents : List (List ℕ)) (m o : Made) (n : ℕ) (start : Start (view b w.volume) w.register contents) (counts : Counts (view b w.volume) (length contents)) (sound : AreSound (view b w.volume))
      (opening : Step b w o v) (opens_call : o.call ≡ opens) (reading : Step b v m w') (reads_call : m.call ≡ reads n) (inside : n < length contents) (block_area : length m.block ≡ 512) (record_area : length m.log ≡ 2048)
    where
      abbrev opened : Ledger
      opened = record (afresh contents) { is_open = true }

      opens_so : o.answer ≡ Ok tt
      opens_so =
          let from : FromSound b w contents [] w = record { from = record { start = start; story = refl }; sound = sound; no_leave = tt } in
          sound_goes w contents [] w o v opening (subst (asks (view b w.volume) (afresh contents) o) (sym opens_call) (refl, counts)) from

      fed_open : feed (afresh contents) o ≡ opened
      fed_open = opened_feed contents o opens_call opens_so

      no_leave : cond (is_leave o.call) (accepted o.answer) false ≡ false
      no_leave = ap (λ c. cond (is_leave c) (accepted o.answer) false) opens_call

      reads_so : m.answer ≡ Ok tt
      reads_so =
          let from : FromSound b w contents (o ∷ []) v =
          record { from = record { start = start; story = record { between = v; step = opening; on = v; alike = alike_self v; others = refl } }; sound = sound; no_leave = (no_leave, tt) } in
          let ask : asks (view b v.volume) opened m (reads n) = record { is_open = refl; existing = inside; block_area = block_area; record_area = record_area } in
          sound_goes w contents (o ∷ []) v m w' reading (subst (λ l. asks (view b v.volume) l m m.call) (sym fed_open) (subst (asks (view b v.volume) opened m) (sym reads_call) ask)) from

      block_so : m.block_left ≡ slice_index_or contents n []
      block_so =
          let read_no_leave : cond (is_leave m.call) (accepted m.answer) false ≡ false = ap (λ c. cond (is_leave c) (accepted m.answer) false) reads_call in
          let from : FromSound b w contents (o ∷ m ∷ []) w' =
          record {
            from = record { start = start; story = record { between = v; step = opening; on = v; alike = alike_self v; others = record { between = w'; step = reading; on = w'; alike = alike_self w'; others = refl } } };
            sound = sound;
            no_leave = (no_leave, (read_no_leave, tt));
          } in
          let good : right (feed (afresh contents) o) m m.call = (after_sound w contents (o ∷ m ∷ []) w' from).0.1.0 in
          let there : right opened m (reads n) = subst (λ l. right l m (reads n)) fed_open (subst (right (feed (afresh contents) o) m) reads_call good) in
          there (ap accepted reads_so)

  -- what is promised of every format and every story
  pub promise : Promise b
  promise =
      record {
        formats = λ s s' r r' answer step is. format_starts b lawful s s' r r' answer step is;
        formats_if_sound = λ s s' r r' answer step may sound. sound_format b lawful s s' r r' answer step may sound;
        stays = λ w w' ms story. story_leaves b lawful ms w w' story;
        follows = λ w w' contents ms from. story_follows b lawful ms (afresh contents) w w' (start_follows w contents from.start.closed) from.story;
        right_or_shown = λ w w' contents ms from. ⊎_elim (λ after. inl (reads_right w contents ms w' ⊥ after)) inr (after_shown w contents ms w' from);
        root_or_shown = λ w w' contents ms from. ⊎_elim (λ after. inl (has_root w contents ms w' ⊥ after)) inr (after_shown w contents ms w' from);
        laid_or_shown = λ w w' contents ms from none. ⊎_elim (λ after. inl (after.1.cards.laid (tt, none))) inr (after_shown w contents ms w' from);
        goes_or_shown = λ w v w' contents ms m from none step ask reached.
            let image = (view b w.volume).image in
            ⊎_elim
            (λ after.
            let i = after.1 in
            let l = fed (afresh contents) ms in
            ⊎_elim (λ yes. inl (ap accepted yes)) (λ shown. inr (shows_last image ms m (afresh contents) shown))
            (reached_accepted b lawful image (lawful.wide w.volume.hash) b.hash.KIND (length contents) ⊥ (Unit {0} × NoLeave ms) l v m w' i (shows image l m)
            (goes_shown image (lawful.wide w.volume.hash) l (view b v.volume) m i.books.contents (i.cards.laid (tt, none))) m.call refl step ask reached))
            (λ shown. inr (shows_before image ms m (afresh contents) shown)) (after_shown w contents ms v from);
        right_if_sound = λ w w' contents ms from. reads_right w contents ms w' (AreSound (view b w.volume)) (after_sound w contents ms w' from);
        root_if_sound = λ w w' contents ms from. has_root w contents ms w' (AreSound (view b w.volume)) (after_sound w contents ms w' from);
        laid_if_sound = λ w w' contents ms from. (after_sound w contents ms w' from).1.cards.laid (tt, from.no_leave);
        goes_if_sound = λ w v w' contents ms m from step ask. ap accepted (sound_goes w contents ms v m w' step ask from);
        reads_exactly = λ w v w' contents m o n start counts sound opening opens_call reading reads_call inside block_area record_area. (
          opens_so w v w' contents m o n start counts sound opening opens_call reading reads_call inside block_area record_area,
          reads_so w v w' contents m o n start counts sound opening opens_call reading reads_call inside block_area record_area,
          block_so w v w' contents m o n start counts sound opening opens_call reading reads_call inside block_area record_area,
        );
      }

-- look on sound sources that are laid out for these contents reads exactly them
pub looks : {S U : Type 0} (g : Source.Ghosts S) (h : Source.Ghosts U) (image : List ℕ → List ℕ) (kind : ℕ) → KeepsReads g.meaning g.reads → KeepsReads h.meaning h.reads
    → ((block : List ℕ) → length (image block) ≡ 32) → LooksExactly g h image kind
looks g h image kind keeps_store keeps_tree wide s s' t t' r contents n block log block' log' answer showing inside block_area record_area step =
    let are = showing.are_contents in
    let holds = showing.register in
    let fetched : Fetched g h image r.blocks n r.root s t answer block' log' s' t' =
    step.goes_on tt
    (look_pass r.blocks r.kind kind (g.meaning s).blocks (h.meaning t).blocks n (length block) (length log)
    (record {
      formatted = omega (arith, holds.blocks, are.least);
      of_kind = holds.kind;
      store_count = showing.store_count ∙ sym holds.blocks;
      tree_count = subst (λ c. total c ≤ (h.meaning t).blocks) (sym holds.blocks) showing.tree_count;
    })
    (record { block_area = block_area; record_area = record_area; inside = omega (arith, holds.blocks, inside) })) in
    let came = (fetch_means g h keeps_store keeps_tree image r.blocks n r.root s t answer block' log' s' t' fetched).0 in
    let told : meant.Fetched image (g.meaning s) (h.meaning t) (length contents) n (root_of image contents) answer block' log' =
    subst (λ c. meant.Fetched image (g.meaning s) (h.meaning t) c n (root_of image contents) answer block' log') holds.blocks
    (subst (λ x. meant.Fetched image (g.meaning s) (h.meaning t) r.blocks n x answer block' log') holds.root came) in
    read_sound image wide contents are.least are.most n inside (g.meaning s) (h.meaning t) answer block' log' (keeps_store.means s) showing.sound_store (omega (arith, showing.store_count)) showing.laid.in_store
    (keeps_tree.means t) showing.sound_tree showing.tree_count showing.laid.in_tree told
