-- What a call comes to, told by the ledger and by what the devices mean: one of eight outcomes.
use Rattle.std.proofs.Common.{◌≡◌, ℕ, ◌<◌, ◌≤◌, Bool, true, false, cond, Option, None, Some, List, length, set, Result, Ok, Err, MatchBool, MatchResult, refl, sym, ap, ◌∙◌, subst}
use Rattle.device.specs.declared.device.Device
use Rattle.device.specs.declared.source.Source
use Rattle.device.specs.Meaning.{KeepsReads, KeepsWrites, Meaning, Settled}
use Rattle.device.specs.Piles.{Keeps}
use Rattle.digest.specs.declared.hash.Hash
use Rattle.geometry.specs.Geometry.{levels}
use Rattle.geometry.proofs.Numbers.{levels_most}
use Rattle.tree.specs.Paths.{risen}
use Rattle.volume.specs.declared.present.Present.{Present}
use Rattle.volume.specs.declared.register.Register.{Register}
use Rattle.volume.specs.declared.volume.Volume.{Volume}
use Rattle.volume.specs.Calls.{Keeping, Minds, Putting, Reading, Settling, Works, Writing}
use Rattle.volume.specs.Checks.{begin_check, open_check, read_check, slip_check, write_check}
use Rattle.volume.specs.Ledger.{Ledger, changed, counts, feed}
use Rattle.volume.specs.Parts.{Holds}
use Rattle.volume.specs.Record.{blank}
use Rattle.volume.specs.Refusals.{Reason, Stuck, plain}
use Rattle.volume.specs.Story.{Call, Made, State, Step, begins, keeps, leaves, opens, reads, shuts, step_of, writes}
use Rattle.volume.specs.View.{Base, Open, View, base, open_of, opened_as, view}
use Rattle.volume.specs.Writes.{passed_at, unwritten}
use Rattle.volume.specs.Writes as put
use Rattle.volume.proofs.Decided.{Fit, Registered, begin_ok, mild_err, mild_walk, mild_write, open_ok, read_ok, same_open, slip_ok, write_ok}
use Rattle.volume.proofs.Laws.{fetch_means, path_put_means, walk_means}
use Rattle.volume.proofs.Meant.{PathPut, Walked}
use Rattle.volume.proofs.Logs.{Leaves, blank_long, walk_leaves}
use Rattle.volume.proofs.Results.{either, none_not_some}
use Rattle.volume.proofs.Wholes.{new_blocks_whole}

-- the devices keep to what a device means, and an image has 32 bytes
pub record Lawful {D T H : Type 0} (b : Base D T H) : Type 0 where
  pub store : Keeps b.store b.store_device
  pub tree : Keeps b.tree b.tree_device
  pub wide : (key : H) (block : List ℕ) → length (b.hash.image key block) ≡ 32

-- so it is by the laws of the traits
pub lawful_of : {D T H : Type 0} {g : Source.Ghosts D} {h : Source.Ghosts T} {d : Device.Ghosts D} {e : Device.Ghosts T} {hash : Hash.Ghosts H} → KeepsReads g.meaning g.reads → KeepsReads h.meaning h.reads
    → KeepsWrites g.meaning d.writes d.settles → KeepsWrites h.meaning e.writes e.settles → ((key : H) (block : List ℕ) → length (hash.image key block) ≡ 32) → Lawful (base g h d e hash)
lawful_of store tree store_writes tree_writes wide = record { store = record { reads = store; writes = store_writes }; tree = record { reads = tree; writes = tree_writes }; wide = wide }

-- an accepted begin gives a slip out, and an accepted keep or leave takes one
abbrev pub hands_over : Result Unit Reason → Call → Bool
hands_over (Ok done) begins = true
hands_over (Ok done) (keeps slip) = true
hands_over (Ok done) (leaves slip) = true
hands_over _ _ = false

-- the volume is the same but for what it has in mind, and for what its devices mean
pub record Turned (v : View) (mind : Option Open) (v' : View) : Type 0 where
  pub number : v'.number ≡ v.number
  pub image : v'.image ≡ v.image
  pub kind : v'.kind ≡ v.kind
  pub present : v'.present ≡ mind

-- and its devices mean the same
pub record Kept (v : View) (mind : Option Open) (v' : View) : Type 0 where
  pub turned : Turned v mind v'
  pub store : v'.store ≡ v.store
  pub tree : v'.tree ≡ v.tree

-- and its devices were settled
pub record Settles (v : View) (mind : Option Open) (v' : View) : Type 0 where
  pub turned : Turned v mind v'
  pub clear_store : Bool
  pub clear_tree : Bool
  pub store : Settled v.store clear_store v'.store
  pub tree : Settled v.tree clear_tree v'.tree

module _ (l : Ledger) (v : View) (r : Register) (m : Made) (l' : Ledger) (v' : View) (r' : Register) where
  -- nothing has changed
  pub record IsUnchanged : Type 0 where
    pub same : v' ≡ v
    pub register : r' ≡ r
    pub ledger : l' ≡ l

  pub record IsOpened : Type 0 where
    pub closed : v.present ≡ None
    pub fits : Registered r.blocks r.kind v.kind v.store.blocks v.tree.blocks
    pub after : Kept v (Some (record { blocks = r.blocks; root = r.root; slip_out = false })) v'
    pub register : r' ≡ r
    pub ledger : l' ≡ record l { contents = l.kept; is_open = true }

  -- the volume was open, and a slip was out or not
  module _ (out : Bool) where
    pub record WasOpen : Type 0 where
      pub mind : Open
      pub present : v.present ≡ Some mind
      pub slip : mind.slip_out ≡ out

  pub record IsBegun : Type 0 where
    pub was : WasOpen false
    pub after : Kept v (Some (record was.mind { slip_out = true })) v'
    pub register : r' ≡ r
    pub ledger : l' ≡ record l { slip_out = true }

  pub record IsShut : Type 0 where
    pub was : WasOpen false
    pub after : Kept v None v'
    pub register : r' ≡ r
    pub ledger : l' ≡ record l { is_open = false }

  pub record IsLeft : Type 0 where
    pub was : WasOpen true
    pub after : Kept v None v'
    pub register : r' ≡ r
    pub ledger : l' ≡ record l { contents = l.kept; is_open = false; slip_out = false }

  pub record IsKept : Type 0 where
    pub was : WasOpen true
    pub after : Settles v (Some (record was.mind { slip_out = false })) v'
    pub register : Holds r' was.mind.blocks v.kind was.mind.root
    pub ledger : l' ≡ record l { kept = l.contents; slip_out = false }

  pub record IsHeld : Type 0 where
    pub was : WasOpen true
    pub after : Settles v (Some was.mind) v'
    pub register : r' ≡ r
    pub ledger : l' ≡ l

  -- block n was written after a walk that passed
  pub record IsWritten (n : ℕ) : Type 0 where
    pub was : WasOpen true
    pub inside : n < was.mind.blocks
    pub long : length m.block ≡ 512
    pub expected : List ℕ
    pub walk : Walked v.image v.tree was.mind.blocks n (levels was.mind.blocks) was.mind.root blank (Ok expected) m.log_left
    pub failed : Option Stuck
    pub put : PathPut v.image was.mind.blocks n m.log_left m.block v.store v.tree failed v'.store v'.tree
    pub answered : m.answer ≡ unwritten failed
    pub turned : Turned v (Some (record was.mind { root = risen v.image was.mind.blocks n (passed_at m.log_left) m.block (levels was.mind.blocks) })) v'
    pub register : r' ≡ r
    pub ledger : l' ≡ record l { contents = set l.contents n m.block }

  -- the call gave out no slip, and took none
  abbrev pub Quiet : Type 0
  Quiet = hands_over m.answer m.call ≡ false

  pub data Outcome : Type 0 where
    stands : Quiet → IsUnchanged → Outcome
    opened : Quiet → IsOpened → Outcome
    begun : m.call ≡ begins → m.answer ≡ Ok tt → IsBegun → Outcome
    shut : Quiet → IsShut → Outcome
    left : (slip : ℕ) → m.call ≡ leaves slip → m.answer ≡ Ok tt → slip ≡ v.number → IsLeft → Outcome
    kept : (slip : ℕ) → m.call ≡ keeps slip → m.answer ≡ Ok tt → slip ≡ v.number → IsKept → Outcome
    not_clear : Quiet → IsHeld → Outcome
    written : Quiet → (slip n : ℕ) → m.call ≡ writes slip n → IsWritten n → Outcome

module _ {D T H : Type 0} (b : Base D T H) (lawful : Lawful b) where
  module _ {s s' : Volume D T H} {mind : Option Open} where
    works_turned : Works b s mind s' → Turned (view b s) mind (view b s')
    works_turned w = record { number = ap (λ v. v.number) w.others; image = ap (λ v. b.hash.image v.hash) w.others; kind = refl; present = w.present }

    minds_kept : Minds b s mind s' → Kept (view b s) mind (view b s')
    minds_kept w =
        record {
          turned = record { number = ap (λ v. v.number) w.others; image = ap (λ v. b.hash.image v.hash) w.others; kind = refl; present = w.present };
          store = ap (λ v. b.store.meaning v.store) w.others;
          tree = ap (λ v. b.tree.meaning v.tree) w.others;
        }

    settles_so : {clear : Bool} → Settling b.store_device b.tree_device s.store s.tree clear s'.store s'.tree → Works b s mind s' → Settles (view b s) mind (view b s')
    settles_so t w =
        record { turned = works_turned w; clear_store = t.clear_store; clear_tree = t.clear_tree; store = lawful.store.writes.settled t.step_store; tree = lawful.tree.writes.settled t.step_tree }

  -- a volume of which every part is the same
  same_parts : (v v' : View) (mind : Option Open) → Kept v mind v' → v.present ≡ mind → v' ≡ v
  same_parts v v' mind k is =
      let present : v'.present ≡ v.present = k.turned.present ∙ sym is in
      λ i. record { number = k.turned.number i; image = k.turned.image i; kind = k.turned.kind i; present = present i; store = k.store i; tree = k.tree i }

  -- an open volume has 1 to 4096 blocks
  small : (o : Option Present) (p : Open) → open_of o ≡ Some p → (1 ≤ p.blocks) × (p.blocks ≤ 4096)
  small None p is = absurd (none_not_some p is)
  small (Some q) p is = subst (λ x. (1 ≤ x.blocks) × (x.blocks ≤ 4096)) (same_open (opened_as q) p is) (q.geometry.least, q.geometry.most)

  -- the writes of a path after a walk come to what the devices mean
  pub put_on_path : (s : Volume D T H) (p : Open) (n : ℕ) (block log : List ℕ) (tree_walked : T) (failed : Option Stuck) (store' : D) (tree' : T) (m : Meaning) (ended : Result (List ℕ) Reason) → open_of s.present ≡ Some p
      → length block ≡ 512 → b.tree.meaning tree_walked ≡ m → Walked (b.hash.image s.hash) m p.blocks n (levels p.blocks) p.root blank ended log
      → put.PathPut b.store_device b.tree_device (b.hash.image s.hash) p.blocks n log block s.store tree_walked failed store' tree'
      → PathPut (b.hash.image s.hash) p.blocks n log block (b.store.meaning s.store) m failed (b.store.meaning store') (b.tree.meaning tree')
  put_on_path s p n block log tree_walked failed store' tree' m ended present long same walk put =
      let size = small s.present p present in
      let few : levels p.blocks ≤ 3 = levels_most p.blocks size.0 size.1 in
      let left : Leaves blank 1 (levels p.blocks) log = walk_leaves (b.hash.image s.hash) m p.blocks n (levels p.blocks) p.root blank ended log few blank_long walk in
      subst (λ t. PathPut (b.hash.image s.hash) p.blocks n log block (b.store.meaning s.store) t failed (b.store.meaning store') (b.tree.meaning tree')) same
      (path_put_means b.store b.tree b.store_device b.tree_device lawful.store.writes lawful.tree.writes (b.hash.image s.hash) p.blocks n log block s.store tree_walked failed store' tree' long
      (new_blocks_whole (b.hash.image s.hash) (lawful.wide s.hash) p.blocks n log block left.long (levels p.blocks) few) put)

  module _ (l : Ledger) (w : State D T H) (m : Made) (w' : State D T H) where
    abbrev Comes : Type 0
    Comes = Outcome l (view b w.volume) w.register m (feed l m) (view b w'.volume) w'.register

    -- a call that was accepted has changed the ledger
    fed_so : (c : Call) → m.call ≡ c → (a : Result Unit Reason) → m.answer ≡ a → counts a c ≡ true → feed l m ≡ changed l m.block c
    fed_so c is a answered counted =
        ap (λ x. cond (counts m.answer x) (changed l m.block x) l) is
        ∙ (ap (λ x. cond (counts x c) (changed l m.block c) l) answered ∙ ap (λ x. cond x (changed l m.block c) l) counted)

    -- and one that was not has left it
    unfed_so : (c : Call) → m.call ≡ c → (a : Result Unit Reason) → m.answer ≡ a → counts a c ≡ false → feed l m ≡ l
    unfed_so c is a answered counted =
        ap (λ x. cond (counts m.answer x) (changed l m.block x) l) is
        ∙ (ap (λ x. cond (counts x c) (changed l m.block c) l) answered ∙ ap (λ x. cond x (changed l m.block c) l) counted)

    quiet_so : (c : Call) → m.call ≡ c → (a : Result Unit Reason) → m.answer ≡ a → hands_over a c ≡ false → hands_over m.answer m.call ≡ false
    quiet_so c is a answered none = (λ k. hands_over (answered k) (is k)) ∙ none

    refused_quiet : (c : Call) (e : Reason) → hands_over (Err e) c ≡ false
    refused_quiet c e = refl

    -- a call that a check refused
    refused_so : (c : Call) → m.call ≡ c → (e : Reason) → m.answer ≡ Err e → counts (Err e) c ≡ false → w'.volume ≡ w.volume → w'.register ≡ w.register → Comes
    refused_so c is e answered uncounted same register =
        stands (quiet_so c is (Err e) answered (refused_quiet c e)) (record { same = ap (view b) same; register = register; ledger = unfed_so c is (Err e) answered uncounted })

    by_call : (c : Call) → m.call ≡ c → step_of b w m w' c → Comes
    by_call opens is (step, areas, register) =
        either Comes (open_check (open_of w.volume.present) w.register.blocks w.register.kind b.hash.KIND (b.store.meaning w.volume.store).blocks (b.tree.meaning w.volume.tree).blocks)
        (λ done passed.
        let o = step.goes_on done passed in
        let fits = open_ok (open_of w.volume.present) w.register.blocks w.register.kind b.hash.KIND (b.store.meaning w.volume.store).blocks (b.tree.meaning w.volume.tree).blocks passed in
        opened (quiet_so opens is (Ok tt) o.accepted refl) (record { closed = fits.0; fits = fits.1; after = minds_kept o.after; register = register; ledger = fed_so opens is (Ok tt) o.accepted refl }))
        (λ e refused. let o = step.refused e refused in refused_so opens is e o.0 refl o.1 register)
    by_call begins is (step, areas, register) =
        either Comes (begin_check (open_of w.volume.present))
        (λ p passed.
        let o = step.goes_on p passed in
        let ok = begin_ok (open_of w.volume.present) p passed in
        begun is o.accepted (record { was = record { mind = p; present = ok.0; slip = ok.1 }; after = minds_kept o.after; register = register; ledger = fed_so begins is (Ok tt) o.accepted refl }))
        (λ e refused. let o = step.refused e refused in refused_so begins is e o.0 refl o.1 register)
    by_call (reads n) is (step, register) =
        either Comes (read_check (open_of w.volume.present) n (length m.block) (length m.log))
        (λ p passed.
        let o : Reading b w.volume p n m.answer m.block_left m.log_left w'.volume = step.goes_on p passed in
        let ok = read_ok (open_of w.volume.present) p n (length m.block) (length m.log) passed in
        let came = fetch_means b.store b.tree lawful.store.reads lawful.tree.reads (b.hash.image w.volume.hash) p.blocks n p.root w.volume.store w.volume.tree m.answer m.block_left m.log_left w'.volume.store w'.volume.tree o.fetched in
        let kept : Kept (view b w.volume) (Some p) (view b w'.volume) = record { turned = works_turned o.after; store = came.1; tree = came.2 } in
        let same : view b w'.volume ≡ view b w.volume = same_parts (view b w.volume) (view b w'.volume) (Some p) kept ok.0 in
        stands (read_quiet n is m.answer refl) (record { same = same; register = register; ledger = read_leaves n is m.answer refl }))
        (λ e refused. let o = step.refused e refused in refused_so (reads n) is e o.0.0 refl o.0.1 register)
      where
        read_leaves : (n : ℕ) → m.call ≡ reads n → (a : Result Unit Reason) → m.answer ≡ a → feed l m ≡ l
        read_leaves n is (Ok done) answered = fed_so (reads n) is (Ok tt) answered refl
        read_leaves n is (Err e) answered = unfed_so (reads n) is (Err e) answered refl

        read_quiet : (n : ℕ) → m.call ≡ reads n → (a : Result Unit Reason) → m.answer ≡ a → hands_over m.answer m.call ≡ false
        read_quiet n is (Ok done) answered = quiet_so (reads n) is (Ok tt) answered refl
        read_quiet n is (Err e) answered = quiet_so (reads n) is (Err e) answered refl
    by_call (writes slip n) is (step, block, register) =
        either Comes (write_check (open_of w.volume.present) w.volume.number slip n (length m.block) (length m.log))
        (λ p passed.
        let o : Writing b w.volume p n m.block m.answer m.log_left w'.volume = step.goes_on p passed in
        let ok = write_ok (open_of w.volume.present) p w.volume.number slip n (length m.block) (length m.log) passed in
        let walk = walk_means b.tree lawful.tree.reads (b.hash.image w.volume.hash) p.blocks n (levels p.blocks) p.root blank w.volume.tree o.walked m.log_left o.tree_walked o.walk in
        wrote slip n is register p ok.0 ok.1 ok.3 o o.walked walk.0 walk.1 o.put)
        (λ e refused.
        let o = step.refused e refused in
        refused_so (writes slip n) is e o.0.0 (mild_err (write_check (open_of w.volume.present) w.volume.number slip n (length m.block) (length m.log)) e (mild_write (open_of w.volume.present) w.volume.number slip n (length m.block) (length m.log)) refused) o.0.1 register)
      where
        wrote : (slip n : ℕ) → m.call ≡ writes slip n → w'.register ≡ w.register → (p : Open) → open_of w.volume.present ≡ Some p → p.slip_out ≡ true → Fit p.blocks n (length m.block) (length m.log)
            → (o : Writing b w.volume p n m.block m.answer m.log_left w'.volume) → (walked : Result (List ℕ) Reason)
            → Walked (b.hash.image w.volume.hash) (b.tree.meaning w.volume.tree) p.blocks n (levels p.blocks) p.root blank walked m.log_left
            → b.tree.meaning o.tree_walked ≡ b.tree.meaning w.volume.tree
            → MatchResult walked (λ expected. Putting b w.volume p n m.block o.tree_walked m.answer m.log_left w'.volume) (λ e. (m.answer ≡ Err e) × (w'.volume ≡ record w.volume { tree = o.tree_walked })) → Comes
        wrote slip n is register p present out fit o (Ok expected) walk tree_same put =
            written (write_quiet slip n is m.answer refl) slip n is
            (record {
              was = record { mind = p; present = present; slip = out };
              inside = fit.inside;
              long = fit.block_area;
              expected = expected;
              walk = walk;
              failed = put.failed;
              put = put_on_path w.volume p n m.block m.log_left o.tree_walked put.failed w'.volume.store w'.volume.tree (b.tree.meaning w.volume.tree) (Ok expected) present fit.block_area tree_same walk put.put;
              answered = put.answered;
              turned = works_turned put.after;
              register = register;
              ledger = written_feeds slip n is put.failed put.answered;
            })
          where
            written_feeds : (slip n : ℕ) → m.call ≡ writes slip n → (failed : Option Stuck) → m.answer ≡ unwritten failed → feed l m ≡ changed l m.block (writes slip n)
            written_feeds slip n is None answered = fed_so (writes slip n) is (Ok tt) answered refl
            written_feeds slip n is (Some stuck) answered = fed_so (writes slip n) is (unwritten (Some stuck)) answered refl

            write_quiet : (slip n : ℕ) → m.call ≡ writes slip n → (a : Result Unit Reason) → m.answer ≡ a → hands_over m.answer m.call ≡ false
            write_quiet slip n is (Ok done) answered = quiet_so (writes slip n) is (Ok tt) answered refl
            write_quiet slip n is (Err e) answered = quiet_so (writes slip n) is (Err e) answered refl
        wrote slip n is register p present out fit o (Err e) walk tree_same (answered, left_so) =
            let kept : Kept (view b w.volume) (Some p) (view b w'.volume) =
            record {
              turned = record { number = ap (λ u. u.number) left_so; image = ap (λ u. b.hash.image u.hash) left_so; kind = refl; present = ap (λ u. open_of u.present) left_so ∙ present };
              store = ap (λ u. b.store.meaning u.store) left_so;
              tree = ap (λ u. b.tree.meaning u.tree) left_so ∙ tree_same;
            } in
            stands (quiet_so (writes slip n) is (Err e) answered refl)
            (record {
              same = same_parts (view b w.volume) (view b w'.volume) (Some p) kept present;
              register = register;
              ledger = unfed_so (writes slip n) is (Err e) answered (mild_walk (b.hash.image w.volume.hash) (b.tree.meaning w.volume.tree) p.blocks n (levels p.blocks) p.root blank (Err e) m.log_left walk);
            })
    by_call (keeps slip) is (step, areas) =
        either Comes (slip_check (open_of w.volume.present) w.volume.number slip)
        (λ p passed.
        let o : Keeping b w.volume p w.register m.answer w'.volume w'.register = step.goes_on p passed in
        let ok = slip_ok (open_of w.volume.present) p w.volume.number slip passed in
        keep_ends slip is ok.2 p ok.0 ok.1 o.clear o.settled o.ended)
        (λ e refused. let o = step.refused e refused in refused_so (keeps slip) is e o.0.0 refl o.0.1 o.1)
      where
        keep_ends : (slip : ℕ) → m.call ≡ keeps slip → slip ≡ w.volume.number → (p : Open) → open_of w.volume.present ≡ Some p → p.slip_out ≡ true
            → (clear : Bool) → Settling b.store_device b.tree_device w.volume.store w.volume.tree clear w'.volume.store w'.volume.tree
            → MatchBool clear ((m.answer ≡ Ok tt) × Holds w'.register p.blocks b.hash.KIND p.root × Works b w.volume (Some (record p { slip_out = false })) w'.volume)
            ((m.answer ≡ Err (plain 44)) × (w'.register ≡ w.register) × Works b w.volume (Some p) w'.volume) → Comes
        keep_ends slip is own p present out true settled (answered, holds, after) =
            kept slip is answered own (record { was = record { mind = p; present = present; slip = out }; after = settles_so settled after; register = holds; ledger = fed_so (keeps slip) is (Ok tt) answered refl })
        keep_ends slip is own p present out false settled (answered, register, after) =
            not_clear (quiet_so (keeps slip) is (Err (plain 44)) answered refl) (record { was = record { mind = p; present = present; slip = out }; after = settles_so settled after; register = register; ledger = unfed_so (keeps slip) is (Err (plain 44)) answered refl })
    by_call (leaves slip) is (step, areas, register) =
        either Comes (slip_check (open_of w.volume.present) w.volume.number slip)
        (λ p passed.
        let o = step.goes_on p passed in
        let ok = slip_ok (open_of w.volume.present) p w.volume.number slip passed in
        left slip is o.accepted ok.2
        (record { was = record { mind = p; present = ok.0; slip = ok.1 }; after = minds_kept o.after; register = register; ledger = fed_so (leaves slip) is (Ok tt) o.accepted refl }))
        (λ e refused. let o = step.refused e refused in refused_so (leaves slip) is e o.0 refl o.1 register)
    by_call shuts is (step, areas, register) =
        either Comes (begin_check (open_of w.volume.present))
        (λ p passed.
        let o = step.goes_on p passed in
        let ok = begin_ok (open_of w.volume.present) p passed in
        shut (quiet_so shuts is (Ok tt) o.accepted refl) (record { was = record { mind = p; present = ok.0; slip = ok.1 }; after = minds_kept o.after; register = register; ledger = fed_so shuts is (Ok tt) o.accepted refl }))
        (λ e refused. let o = step.refused e refused in refused_so shuts is e o.0 refl o.1 register)

    -- every call comes to one of the outcomes
    pub outcome : Step b w m w' → Comes
    outcome step = by_call m.call refl step

    -- the number of a volume stays
    pub number_stays : Step b w m w' → w'.volume.number ≡ w.volume.number
    number_stays step =
        on (outcome step)
      where
        on : Comes → w'.volume.number ≡ w.volume.number
        on (stands quiet o) = ap (λ u. u.number) o.same
        on (opened quiet o) = o.after.turned.number
        on (begun is answered o) = o.after.turned.number
        on (shut quiet o) = o.after.turned.number
        on (left slip is answered own o) = o.after.turned.number
        on (kept slip is answered own o) = o.after.turned.number
        on (not_clear quiet o) = o.after.turned.number
        on (written quiet slip n is o) = o.turned.number
