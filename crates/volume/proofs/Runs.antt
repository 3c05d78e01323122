-- What every story keeps: by one call, and by induction over its calls, with the extractor or on sound devices.
use Rattle.std.proofs.Common.{◌≡◌, ℕ, ◌<◌, ◌⊎◌, inl, inr, true, false, cond, Some, List, [], ◌∷◌, length, Ok, MatchOption, refl, sym, ap, ◌∙◌, subst, true≢false, ⊎_elim, arith}
use Rattle.std.specs.Prelude.{slice_index_or}
use Rattle.device.specs.Meaning.{IsMeaning}
use Rattle.geometry.specs.Geometry.{levels}
use Rattle.tree.specs.Layout.{root_of}
use Rattle.volume.specs.Checks.{read_check}
use Rattle.volume.specs.Ledger.{Ledger, NoLeave, accepted, fed, feed, is_leave, path_of, walked}
use Rattle.volume.specs.Promise.{AreContents, AreSound, Collision, Counts, Follows, Laid, Right, Shows, right, shows}
use Rattle.volume.specs.Record.{blank}
use Rattle.volume.specs.Story.{Alike, Call, Made, State, Step, Story, leaves, reads, step_of, writes}
use Rattle.volume.specs.View.{Base, View, open_of, view}
use Rattle.volume.proofs.Decided.{read_ok, write_walked}
use Rattle.volume.proofs.Invariant.{Agrees, TrueParts, agrees_under, begun_on, count_of, counts_of, fetch_of, follows_on, kept_on, left_on, not_clear_on, opened_on, shut_on, stands_on, walk_of, written_on}
use Rattle.volume.proofs.Laws.{fetch_means}
use Rattle.volume.proofs.Meant.{Fetched, Walked}
use Rattle.volume.proofs.Outcomes.{Lawful, Outcome, begun, kept, left, not_clear, opened, outcome, shut, stands, written}
use Rattle.volume.proofs.Results.{either}
use Rattle.volume.proofs.Shown.{collision_at}
use Rattle.volume.proofs.Truths.{read_right, read_sound, walk_long, walk_sound, walk_true}

-- what an accepted read and a walk that goes through come to, or else this of the call
pub record Sees (image : List ℕ → List ℕ) (Else : Type 0) (l : Ledger) (v : View) (m : Made) : Type 0 where
  pub read : (n : ℕ) → m.call ≡ reads n → Counts v (length l.contents) → n < length l.contents
      → Fetched image v.store v.tree (length l.contents) n (root_of image l.contents) m.answer m.block_left m.log_left → m.answer ≡ Ok tt → (m.block_left ≡ slice_index_or l.contents n []) ⊎ Else
  pub walk : (slip n : ℕ) → m.call ≡ writes slip n → Counts v (length l.contents) → n < length l.contents → walked m.answer ≡ true → (expected : List ℕ)
      → Walked image v.tree (length l.contents) n (levels (length l.contents)) (root_of image l.contents) blank (Ok expected) m.log_left → TrueParts image l.contents n m.log_left ⊎ Else

-- what a call on the path of a data block shows
pub shows_at : (image : List ℕ → List ℕ) (l : Ledger) (m : Made) (k : ℕ) → path_of m.call ≡ Some k → walked m.answer ≡ true → Collision image l.contents k m.log_left → shows image l m
shows_at image l m k is went c = subst (λ o. MatchOption o ⊥ (λ j. (walked m.answer ≡ true) × Collision image l.contents j m.log_left)) (sym is) (went, c)

module _ {D T H : Type 0} (b : Base D T H) (lawful : Lawful b) where
  -- after every story the volume is open, and a slip is out, as the ledger says
  pub story_follows : (ms : List Made) (l : Ledger) (w w' : State D T H) → Follows l (view b w.volume) → Story b w ms w' → Follows (fed l ms) (view b w'.volume)
  story_follows [] l w w' f same = subst (λ u. Follows l (view b u.volume)) (sym same) f
  story_follows (m ∷ ms) l w w' f s =
      story_follows ms (feed l m) s.on w' (subst (Follows (feed l m)) (sym s.alike.same_view) (follows_on (outcome b lawful l w m s.between s.step) f)) s.others

  module _ (image : List ℕ → List ℕ) (wide : (block : List ℕ) → length (image block) ≡ 32) (kind n : ℕ) (Sound : Type 0) where
    -- after a call the ledger agrees still, and the block of an accepted read is right; or else this of the call
    abbrev pub Ends : Type 0 → Type 0 → Ledger → Made → State D T H → Type 0
    Ends Else Before l m w' =
        right l m m.call × Agrees image kind n Sound (Before × (cond (is_leave m.call) (accepted m.answer) false ≡ false)) (feed l m) (view b w'.volume) w'.register ⊎ Else

    module _ (Before : Type 0) (l : Ledger) (w : State D T H) (m : Made) (w' : State D T H) (i : Agrees image kind n Sound Before l (view b w.volume) w.register)
        (Else : Type 0) (sees : Sees image Else l (view b w.volume) m)
      where
        abbrev After : Type 0
        After = Before × (cond (is_leave m.call) (accepted m.answer) false ≡ false)

        abbrev AgreesThen : Type 0
        AgreesThen = Agrees image kind n Sound After (feed l m) (view b w'.volume) w'.register

        leave_known : (slip : ℕ) → m.call ≡ leaves slip → m.answer ≡ Ok tt → After → ⊥
        leave_known slip is answered a =
            true≢false (sym (ap (λ c. cond (is_leave c) (accepted m.answer) false) is ∙ ap accepted answered) ∙ a.1)

        on_outcome : Outcome l (view b w.volume) w.register m (feed l m) (view b w'.volume) w'.register → Follows (feed l m) (view b w'.volume) → AgreesThen ⊎ Else
        on_outcome (stands quiet o) f = inl (stands_on {After = After} (λ a. a.0) i f o)
        on_outcome (opened quiet o) f = inl (opened_on {After = After} (λ a. a.0) i f o)
        on_outcome (begun is answered o) f = inl (begun_on {After = After} (λ a. a.0) i f o)
        on_outcome (shut quiet o) f = inl (shut_on {After = After} (λ a. a.0) i f o)
        on_outcome (left slip is answered own o) f = inl (left_on {After = After} (λ a. a.0) i f (leave_known slip is answered) o)
        on_outcome (kept slip is answered own o) f = inl (kept_on {After = After} (λ a. a.0) i f o)
        on_outcome (not_clear quiet o) f = inl (not_clear_on {After = After} (λ a. a.0) i f o)
        on_outcome (written quiet slip k is o) f =
            let p = o.was.mind in
            ⊎_elim (λ parts. inl (written_on {After = After} (λ a. a.0) i f wide k o parts)) inr
            (sees.walk slip k is (counts_of i p o.was.present) (subst (λ c. k < c) (count_of i p o.was.present) o.inside)
            (ap walked o.answered ∙ write_walked o.failed) o.expected (walk_of i p o.was.present k (Ok o.expected) m.log_left o.walk))

        -- the block of an accepted read
        read_so : (c : Call) → m.call ≡ c → step_of b w m w' c → right l m c ⊎ Else
        read_so (reads k) is (step, register) =
            either (right l m (reads k) ⊎ Else) (read_check (open_of w.volume.present) k (length m.block) (length m.log))
            (λ p passed.
            let o = step.goes_on p passed in
            let ok = read_ok (open_of w.volume.present) p k (length m.block) (length m.log) passed in
            let came = fetch_means b.store b.tree lawful.store.reads lawful.tree.reads (b.hash.image w.volume.hash) p.blocks k p.root w.volume.store w.volume.tree m.answer m.block_left m.log_left w'.volume.store w'.volume.tree o.fetched in
            either (right l m (reads k) ⊎ Else) m.answer
            (λ done answered.
            ⊎_elim (λ good. inl (λ yes. good)) inr
            (sees.read k is (counts_of i p ok.0) (subst (λ c. k < c) (count_of i p ok.0) ok.1.inside) (fetch_of i p ok.0 k m.answer m.block_left m.log_left came.0) answered))
            (λ e answered. inl (λ yes. absurd (true≢false (sym yes ∙ ap accepted answered)))))
            (λ e refused. inl (λ yes. absurd (true≢false (sym yes ∙ ap accepted (step.refused e refused).0.0))))
        read_so _ is step = inl tt

        -- one call of a story
        pub step_ends : Step b w m w' → Ends Else Before l m w'
        step_ends s =
            let o = outcome b lawful l w m w' s in
            ⊎_elim (λ good. ⊎_elim (λ agrees. inl (good, agrees)) inr (on_outcome o (follows_on o i.follows))) inr (read_so m.call refl s)

    -- what the extractor sees of a call
    pub sees_shown : (l : Ledger) (v : View) (m : Made) → AreContents l.contents → Sees image (shows image l m) l v m
    sees_shown l v m are =
        record {
          read = λ k is counts inside fetched answered.
              ⊎_elim inl (λ c. inr (shows_at image l m k (ap path_of is) (ap walked answered) c))
              (read_right image wide l.contents are.least are.most k inside (λ g. Collision image l.contents k g) (λ g j long h above other alike. collision_at image l.contents k g inside long j h above other alike)
              v.store v.tree m.answer m.block_left m.log_left fetched answered);
          walk = λ slip k is counts inside went expected walk.
              let long : length m.log_left ≡ 2048 = (walk_long image wide l.contents are.least are.most k inside v.tree (Ok expected) m.log_left walk).0 in
              ⊎_elim (λ right. inl right.1) (λ c. inr (shows_at image l m k (ap path_of is) went c))
              (walk_true image wide l.contents are.least are.most k inside (λ g. Collision image l.contents k g) (λ g j long h above other alike. collision_at image l.contents k g inside long j h above other alike)
              v.tree (Ok expected) expected m.log_left m.log_left walk long (λ j low high. refl) refl);
        }

    -- what agrees agrees with a volume that is the same to its caller
    alike_agrees : {Before : Type 0} {l : Ledger} (v u : State D T H) → Alike b v u → Agrees image kind n Sound Before l (view b v.volume) v.register → Agrees image kind n Sound Before l (view b u.volume) u.register
    alike_agrees {Before} {l} v u alike i =
        subst (λ r. Agrees image kind n Sound Before l (view b u.volume) r) (sym alike.same_register) (subst (λ x. Agrees image kind n Sound Before l x v.register) (sym alike.same_view) i)

    -- every story keeps to the ledger, or the extractor shows a collision
    pub story_shown : (ms : List Made) (Before : Type 0) (l : Ledger) (w w' : State D T H) → Agrees image kind n Sound Before l (view b w.volume) w.register → Story b w ms w'
        → Right l ms × Agrees image kind n Sound (Before × NoLeave ms) (fed l ms) (view b w'.volume) w'.register ⊎ Shows image l ms
    story_shown [] Before l w w' i same =
        inl (tt, subst (λ u. Agrees image kind n Sound (Before × NoLeave []) l (view b u.volume) u.register) (sym same) (agrees_under (λ a. a.0) i))
    story_shown (m ∷ ms) Before l w w' i s =
        ⊎_elim
        (λ good.
        ⊎_elim
        (λ rest. inl ((good.0, rest.0), agrees_under (λ a. ((a.0, a.1.0), a.1.1)) rest.1))
        (λ shown. inr (inr shown)) (story_shown ms (Before × (cond (is_leave m.call) (accepted m.answer) false ≡ false)) (feed l m) s.on w' (alike_agrees s.between s.on s.alike good.1) s.others))
        (λ shown. inr (inl shown)) (step_ends Before l w m s.between i (shows image l m) (sees_shown l (view b w.volume) m i.books.contents) s.step)

    -- what is seen of a call on sound devices that are laid out for the contents
    pub sees_sound : (l : Ledger) (v : View) (m : Made) → AreContents l.contents → IsMeaning v.store → IsMeaning v.tree → AreSound v → Laid image v.store v.tree l.contents → Sees image ⊥ l v m
    sees_sound l v m are store_means tree_means sound laid =
        record {
          read = λ k is counts inside fetched answered.
              inl
              (read_sound image wide l.contents are.least are.most k inside v.store v.tree m.answer m.block_left m.log_left store_means sound.0 (omega (arith, counts.store)) laid.in_store tree_means sound.1 counts.tree laid.in_tree fetched).1;
          walk = λ slip k is counts inside went expected walk.
              inl (walk_sound image wide l.contents are.least are.most k inside v.tree (Ok expected) m.log_left tree_means sound.1 counts.tree laid.in_tree walk).1;
        }

    -- on sound devices every story without an accepted leave keeps to the ledger
    pub story_sound : Sound → (ms : List Made) (Before : Type 0) (l : Ledger) (w w' : State D T H) → Before → Agrees image kind n Sound Before l (view b w.volume) w.register → Story b w ms w' → NoLeave ms
        → Right l ms × Agrees image kind n Sound (Before × NoLeave ms) (fed l ms) (view b w'.volume) w'.register
    story_sound sound [] Before l w w' before i same none =
        (tt, subst (λ u. Agrees image kind n Sound (Before × NoLeave []) l (view b u.volume) u.register) (sym same) (agrees_under (λ a. a.0) i))
    story_sound sound (m ∷ ms) Before l w w' before i s none =
        let sees : Sees image ⊥ l (view b w.volume) m =
        sees_sound l (view b w.volume) m i.books.contents (lawful.store.reads.means w.volume.store) (lawful.tree.reads.means w.volume.tree) (i.cards.sound sound) (i.cards.laid before) in
        ⊎_elim
        (λ good.
        let rest = story_sound sound ms (Before × (cond (is_leave m.call) (accepted m.answer) false ≡ false)) (feed l m) s.on w' (before, none.0) (alike_agrees s.between s.on s.alike good.1) s.others none.1 in
        ((good.0, rest.0), agrees_under (λ a. ((a.0, a.1.0), a.1.1)) rest.1))
        (λ never. absurd never) (step_ends Before l w m s.between i ⊥ sees s.step)
