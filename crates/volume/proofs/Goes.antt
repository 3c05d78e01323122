-- Which calls are accepted: those of which nothing is wanting, where each block on the path has a sure cell, or on sound devices.
use Rattle.std.proofs.Common.{◌≡◌, ℕ, ◌<◌, ◌≤◌, ◌⊎◌, inl, inr, Bool, true, false, Option, None, Some, List, length, Result, Ok, Err, MatchBool, MatchResult, refl, sym, ap, ◌∙◌, subst, true≢false, ⊎_elim, arith}
use Rattle.device.specs.Meaning.{IsMeaning}
use Rattle.geometry.specs.Geometry.{levels, total}
use Rattle.tree.specs.Layout.{root_of}
use Rattle.volume.specs.Calls.{Keeping, Putting, Settling, Works, Writing}
use Rattle.volume.specs.Ledger.{Ledger, path_of, walked}
use Rattle.volume.specs.Parts.{Holds}
use Rattle.volume.specs.Promise.{AreContents, AreSound, Asked, Collision, Counts, Laid, Reached, RightSlip, SurePath, asks, shows}
use Rattle.volume.specs.Record.{blank}
use Rattle.volume.specs.Refusals.{Reason, plain}
use Rattle.volume.specs.Story.{Call, Made, State, begins, keeps, leaves, opens, reads, shuts, step_of, writes}
use Rattle.volume.specs.View.{Base, Open, View, open_of, view}
use Rattle.volume.specs.Writes.{unwritten}
use Rattle.volume.proofs.Decided.{Fit, Past, begin_pass, fetch_walked, open_pass, past_walk, read_pass, slip_pass, write_walked, write_pass}
use Rattle.volume.proofs.Invariant.{Agrees, TrueParts, count_of, counts_of, fetch_of, moved_of, walk_of, was_closed, was_open}
use Rattle.volume.proofs.Laws.{fetch_means, walk_means}
use Rattle.volume.proofs.Meant.{Fetched, Walked}
use Rattle.volume.proofs.Outcomes.{Lawful, put_on_path}
use Rattle.volume.proofs.Results.{none_not_some}
use Rattle.std.proofs.lemmas.Bool.{and_from}
use Rattle.volume.proofs.Runs.{shows_at}
use Rattle.volume.proofs.Shown.{collision_at}
use Rattle.volume.proofs.Truths.{Reaches, ReachesData, reaches_data_sound, reaches_sound, read_goes, read_sound, walk_goes, walk_long, walk_sound}

-- a walk goes through over true tree blocks
pub record Through (image : List ℕ → List ℕ) (contents : List (List ℕ)) (k : ℕ) (ended : Result (List ℕ) Reason) (log : List ℕ) : Type 0 where
  pub expected : List ℕ
  pub is : ended ≡ Ok expected
  pub parts : TrueParts image contents k log

-- where each block of the path has a sure cell, a read and the walk of a write go through, or else this of the call
pub record SeesGo (image : List ℕ → List ℕ) (Else : Type 0) (l : Ledger) (v : View) (m : Made) : Type 0 where
  pub read : (k : ℕ) → m.call ≡ reads k → Counts v (length l.contents) → k < length l.contents → SurePath v.store v.tree (length l.contents) k
      → Fetched image v.store v.tree (length l.contents) k (root_of image l.contents) m.answer m.block_left m.log_left → (m.answer ≡ Ok tt) ⊎ Else
  pub walk : (slip k : ℕ) → m.call ≡ writes slip k → Counts v (length l.contents) → k < length l.contents → SurePath v.store v.tree (length l.contents) k → walked m.answer ≡ true → (ended : Result (List ℕ) Reason)
      → Walked image v.tree (length l.contents) k (levels (length l.contents)) (root_of image l.contents) blank ended m.log_left → Through image l.contents k ended m.log_left ⊎ Else

module _ {D T H : Type 0} (b : Base D T H) (lawful : Lawful b) (image : List ℕ → List ℕ) (wide : (block : List ℕ) → length (image block) ≡ 32) (kind n : ℕ) (Sound Before : Type 0) where
  module _ (l : Ledger) (w : State D T H) (m : Made) (w' : State D T H) (i : Agrees image kind n Sound Before l (view b w.volume) w.register) where
    -- a volume that the ledger has open is
    open_now : (o : Option Open) → open_of w.volume.present ≡ o → l.is_open ≡ true → (p : Open) × (open_of w.volume.present ≡ Some p)
    open_now None is said = absurd (true≢false (sym said ∙ sym (was_closed is i.follows).0))
    open_now (Some p) is said = (p, is)

    closed_now : (o : Option Open) → open_of w.volume.present ≡ o → l.is_open ≡ false → open_of w.volume.present ≡ None
    closed_now None is said = is
    closed_now (Some p) is said = absurd (true≢false ((was_open p is i.follows).0 ∙ said))

    -- a slip that the ledger has out is
    slip_now : (o : Option Open) → open_of w.volume.present ≡ o → l.slip_out ≡ true → (p : Open) × (open_of w.volume.present ≡ Some p) × (p.slip_out ≡ true)
    slip_now None is said = absurd (true≢false (sym said ∙ sym (was_closed is i.follows).1))
    slip_now (Some p) is said = (p, is, (was_open p is i.follows).1 ∙ said)

    fit_of : (k : ℕ) (p : Open) → open_of w.volume.present ≡ Some p → Asked l k m.block m.log → Fit p.blocks k (length m.block) (length m.log)
    fit_of k p present asked = record { block_area = asked.block_area; record_area = asked.record_area; inside = omega (arith, count_of i p present, asked.existing) }

    -- a write past its checks answers as one that walked
    past_write : (k : ℕ) (p : Open) (o : Writing b w.volume p k m.block m.answer m.log_left w'.volume)
        → Walked (b.hash.image w.volume.hash) (b.tree.meaning w.volume.tree) p.blocks k (levels p.blocks) p.root blank o.walked m.log_left → walked m.answer ≡ true
    past_write k p o walk =
        on o.walked (past_walk (b.hash.image w.volume.hash) (b.tree.meaning w.volume.tree) p.blocks k (levels p.blocks) p.root blank o.walked m.log_left walk) o.put
      where
        on : (r : Result (List ℕ) Reason) → Past r → MatchResult r (λ expected. Putting b w.volume p k m.block o.tree_walked m.answer m.log_left w'.volume) (λ e. (m.answer ≡ Err e) × (w'.volume ≡ record w.volume { tree = o.tree_walked }))
            → walked m.answer ≡ true
        on (Ok expected) past put = ap walked put.answered ∙ write_walked put.failed
        on (Err e) past stuck = ap walked stuck.0 ∙ past

    -- a read on a path with a sure cell for each block
    pub read_accepted : (Else : Type 0) → SeesGo image Else l (view b w.volume) m → (k : ℕ) → m.call ≡ reads k → step_of b w m w' (reads k) → Asked l k m.block m.log
        → SurePath (view b w.volume).store (view b w.volume).tree (length l.contents) k → (m.answer ≡ Ok tt) ⊎ Else
    read_accepted Else sees k is (step, register) asked path =
        let found = open_now (open_of w.volume.present) refl asked.is_open in
        let p = found.0 in
        let o = step.goes_on p (read_pass (open_of w.volume.present) p k (length m.block) (length m.log) found.1 (fit_of k p found.1 asked)) in
        let came = fetch_means b.store b.tree lawful.store.reads lawful.tree.reads (b.hash.image w.volume.hash) p.blocks k p.root w.volume.store w.volume.tree m.answer m.block_left m.log_left w'.volume.store w'.volume.tree o.fetched in
        sees.read k is (counts_of i p found.1) asked.existing path (fetch_of i p found.1 k m.answer m.block_left m.log_left came.0)

    -- a write on such a path, whose walk went through
    put_accepted : (k : ℕ) (p : Open) → open_of w.volume.present ≡ Some p → Fit p.blocks k (length m.block) (length m.log) → SurePath (view b w.volume).store (view b w.volume).tree (length l.contents) k
        → (o : Writing b w.volume p k m.block m.answer m.log_left w'.volume) → b.tree.meaning o.tree_walked ≡ b.tree.meaning w.volume.tree
        → Walked (b.hash.image w.volume.hash) (b.tree.meaning w.volume.tree) p.blocks k (levels p.blocks) p.root blank o.walked m.log_left → Through image l.contents k o.walked m.log_left → m.answer ≡ Ok tt
    put_accepted k p present fit path o same walk t =
        let put : Putting b w.volume p k m.block o.tree_walked m.answer m.log_left w'.volume =
        subst (λ r. MatchResult r (λ expected. Putting b w.volume p k m.block o.tree_walked m.answer m.log_left w'.volume) (λ e. (m.answer ≡ Err e) × (w'.volume ≡ record w.volume { tree = o.tree_walked }))) t.is o.put in
        let come =
        put_on_path b lawful w.volume p k m.block m.log_left o.tree_walked put.failed w'.volume.store w'.volume.tree (b.tree.meaning w.volume.tree) o.walked present fit.block_area same walk put.put in
        let moved = moved_of i p present wide k fit.inside m.log_left m.block put.failed (b.store.meaning w'.volume.store) (b.tree.meaning w'.volume.tree) come t.parts in
        let counts = counts_of i p present in
        put.answered ∙ ap unwritten (moved.goes counts.store counts.tree path)

    pub write_accepted : (Else : Type 0) → SeesGo image Else l (view b w.volume) m → (slip k : ℕ) → m.call ≡ writes slip k → step_of b w m w' (writes slip k) → Asked l k m.block m.log → RightSlip (view b w.volume) l slip
        → SurePath (view b w.volume).store (view b w.volume).tree (length l.contents) k → (m.answer ≡ Ok tt) ⊎ Else
    write_accepted Else sees slip k is (step, block, register) asked right path =
        let found = slip_now (open_of w.volume.present) refl right.one_out in
        let p = found.0 in
        let fit = fit_of k p found.1 asked in
        let o : Writing b w.volume p k m.block m.answer m.log_left w'.volume =
        step.goes_on p (write_pass (open_of w.volume.present) p w.volume.number slip k (length m.block) (length m.log) found.1 found.2 right.number fit) in
        let walk = walk_means b.tree lawful.tree.reads (b.hash.image w.volume.hash) p.blocks k (levels p.blocks) p.root blank w.volume.tree o.walked m.log_left o.tree_walked o.walk in
        ⊎_elim (λ t. inl (put_accepted k p found.1 fit path o walk.1 walk.0 t)) inr
        (sees.walk slip k is (counts_of i p found.1) asked.existing path (past_write k p o walk.0) o.walked (walk_of i p found.1 k o.walked m.log_left walk.0))

    -- sound devices are clear once they are settled
    settles_clear : {clear : Bool} → Settling b.store_device b.tree_device w.volume.store w.volume.tree clear w'.volume.store w'.volume.tree → AreSound (view b w.volume) → clear ≡ true
    settles_clear s sound =
        let store = lawful.store.writes.settled s.step_store in
        let tree = lawful.tree.writes.settled s.step_tree in
        s.told ∙ and_from s.clear_store s.clear_tree (store.told ∙ store.sound_is_clear sound.0) (tree.told ∙ tree.sound_is_clear sound.1)

    -- keep on sound devices
    keep_ends : (p : Open) (clear : Bool) → clear ≡ true
        → MatchBool clear ((m.answer ≡ Ok tt) × Holds w'.register p.blocks b.hash.KIND p.root × Works b w.volume (Some (record p { slip_out = false })) w'.volume)
        ((m.answer ≡ Err (plain 44)) × (w'.register ≡ w.register) × Works b w.volume (Some p) w'.volume) → m.answer ≡ Ok tt
    keep_ends p true is ended = ended.0
    keep_ends p false is ended = absurd (true≢false (sym is))

    some_not_none : (k : ℕ) → Some k ≡ None → ⊥
    some_not_none k is = none_not_some k (sym is)

    -- all other calls
    pub others_accepted : AreSound (view b w.volume) → (c : Call) → step_of b w m w' c → asks (view b w.volume) l m c → path_of c ≡ None → m.answer ≡ Ok tt
    others_accepted sound opens (step, areas, register) (closed, counts) none =
        let here = closed_now (open_of w.volume.present) refl closed in
        let least : 0 < w.register.blocks = omega (arith, i.books.contents.least, i.books.count, i.register.blocks) in
        (step.goes_on tt
        (open_pass (open_of w.volume.present) w.register.blocks w.register.kind b.hash.KIND (b.store.meaning w.volume.store).blocks (b.tree.meaning w.volume.tree).blocks here
        (record {
          formatted = least;
          of_kind = i.register.kind ∙ sym i.who.same_kind;
          store_count = counts.store ∙ i.books.count ∙ sym i.register.blocks;
          tree_count = subst (λ c. total c ≤ (b.tree.meaning w.volume.tree).blocks) (i.books.count ∙ sym i.register.blocks) counts.tree;
        }))).accepted
    others_accepted sound begins (step, areas, register) ask none =
        let found = open_now (open_of w.volume.present) refl ask.is_open in
        (step.goes_on found.0 (begin_pass (open_of w.volume.present) found.0 found.1 ((was_open found.0 found.1 i.follows).1 ∙ ask.none_out))).accepted
    others_accepted sound (reads k) step ask none = absurd (some_not_none k none)
    others_accepted sound (writes slip k) step ask none = absurd (some_not_none k none)
    others_accepted sound (keeps slip) (step, areas) ask none =
        let found = slip_now (open_of w.volume.present) refl ask.one_out in
        let o : Keeping b w.volume found.0 w.register m.answer w'.volume w'.register = step.goes_on found.0 (slip_pass (open_of w.volume.present) found.0 w.volume.number slip found.1 found.2 ask.number) in
        keep_ends found.0 o.clear (settles_clear o.settled sound) o.ended
    others_accepted sound (leaves slip) (step, areas, register) ask none =
        let found = slip_now (open_of w.volume.present) refl ask.one_out in
        (step.goes_on found.0 (slip_pass (open_of w.volume.present) found.0 w.volume.number slip found.1 found.2 ask.number)).accepted
    others_accepted sound shuts (step, areas, register) ask none =
        let found = open_now (open_of w.volume.present) refl ask.is_open in
        (step.goes_on found.0 (begin_pass (open_of w.volume.present) found.0 found.1 ((was_open found.0 found.1 i.follows).1 ∙ ask.none_out))).accepted

    -- on sound devices every call is accepted of which nothing is wanting
    pub sound_accepted : AreSound (view b w.volume) → SeesGo image ⊥ l (view b w.volume) m → ((k : ℕ) → Counts (view b w.volume) (length l.contents) → k < length l.contents → SurePath (view b w.volume).store (view b w.volume).tree (length l.contents) k)
        → (c : Call) → m.call ≡ c → step_of b w m w' c → asks (view b w.volume) l m c → m.answer ≡ Ok tt
    sound_accepted sound sees path (reads k) is step ask =
        let found = open_now (open_of w.volume.present) refl ask.is_open in
        ⊎_elim (λ yes. yes) (λ never. absurd never) (read_accepted ⊥ sees k is step ask (path k (counts_of i found.0 found.1) ask.existing))
    sound_accepted sound sees path (writes slip k) is step (ask, right) =
        let found = open_now (open_of w.volume.present) refl ask.is_open in
        ⊎_elim (λ yes. yes) (λ never. absurd never) (write_accepted ⊥ sees slip k is step ask right (path k (counts_of i found.0 found.1) ask.existing))
    sound_accepted sound sees path c is step ask = others_accepted sound c step ask refl

    -- on any devices a call on a path that has a sure cell for each block is, or else this of the call
    pub reached_accepted : (Else : Type 0) → SeesGo image Else l (view b w.volume) m → (c : Call) → m.call ≡ c → step_of b w m w' c → asks (view b w.volume) l m c → Reached (view b w.volume) (length l.contents) c
        → (m.answer ≡ Ok tt) ⊎ Else
    reached_accepted Else sees (reads k) is step ask path = read_accepted Else sees k is step ask path
    reached_accepted Else sees (writes slip k) is step (ask, right) path = write_accepted Else sees slip k is step ask right path
    reached_accepted Else sees _ is step ask never = absurd never

module _ (image : List ℕ → List ℕ) (wide : (b : List ℕ) → length (image b) ≡ 32) (l : Ledger) (v : View) (m : Made) (are : AreContents l.contents) (laid : Laid image v.store v.tree l.contents) where
  reaches_tree : (k : ℕ) → Counts v (length l.contents) → SurePath v.store v.tree (length l.contents) k → Reaches image l.contents k v.tree
  reaches_tree k counts path = record { blocks = counts.tree; lies = laid.in_tree; sure_cell = path.of_tree }

  reaches_store : (k : ℕ) → Counts v (length l.contents) → SurePath v.store v.tree (length l.contents) k → ReachesData l.contents k v.store
  reaches_store k counts path = record { blocks = omega (arith, counts.store); lies = laid.in_store; sure_cell = path.of_data }

  -- what the extractor sees of a call that has to be accepted
  pub goes_shown : SeesGo image (shows image l m) l v m
  goes_shown =
      record {
        read = λ k is counts inside path fetched.
            ⊎_elim (λ right. inl right.0) (λ c. inr (shows_at image l m k (ap path_of is) (fetch_walked image v.store v.tree (length l.contents) k (root_of image l.contents) m.answer m.block_left m.log_left fetched) c))
            (read_goes image wide l.contents are.least are.most k inside (λ g. Collision image l.contents k g) (λ g j long h above other alike. collision_at image l.contents k g inside long j h above other alike)
            v.store v.tree m.answer m.block_left m.log_left (reaches_store k counts path) (reaches_tree k counts path) fetched);
        walk = λ slip k is counts inside path went ended walk.
            let long : length m.log_left ≡ 2048 = (walk_long image wide l.contents are.least are.most k inside v.tree ended m.log_left walk).0 in
            ⊎_elim (λ right. inl (record { expected = _; is = right.0; parts = right.1 })) (λ c. inr (shows_at image l m k (ap path_of is) went c))
            (walk_goes image wide l.contents are.least are.most k inside (λ g. Collision image l.contents k g) (λ g j long h above other alike. collision_at image l.contents k g inside long j h above other alike)
            v.tree ended m.log_left m.log_left (reaches_tree k counts path) walk long (λ j low high. refl));
      }

  -- what is seen of it on sound devices
  module _ (store_means : IsMeaning v.store) (tree_means : IsMeaning v.tree) (sound : AreSound v) where
    pub goes_sound : SeesGo image ⊥ l v m
    goes_sound =
        record {
          read = λ k is counts inside path fetched.
              inl
              (read_sound image wide l.contents are.least are.most k inside v.store v.tree m.answer m.block_left m.log_left store_means sound.0 (omega (arith, counts.store)) laid.in_store tree_means sound.1 counts.tree laid.in_tree fetched).0;
          walk = λ slip k is counts inside path went ended walk.
              let through = walk_sound image wide l.contents are.least are.most k inside v.tree ended m.log_left tree_means sound.1 counts.tree laid.in_tree walk in
              inl (record { expected = _; is = through.0; parts = through.1 });
        }

    -- and there is a sure cell for each block
    pub path_sound : (k : ℕ) → Counts v (length l.contents) → k < length l.contents → SurePath v.store v.tree (length l.contents) k
    path_sound k counts inside =
        let cells : ReachesData l.contents k v.store = reaches_data_sound image wide l.contents are.least are.most k inside v.store store_means sound.0 (omega (arith, counts.store)) laid.in_store in
        let tree : Reaches image l.contents k v.tree = reaches_sound image wide l.contents are.least are.most k inside v.tree tree_means sound.1 counts.tree laid.in_tree in
        record { of_data = cells.sure_cell; of_tree = tree.sure_cell }
