-- What holds between the ledger, the volume and the register at each moment of a story, in five parts, and what the outcomes of calls make
-- of each.
use Rattle.std.proofs.Common.{◌≡◌, ℕ, ◌<◌, ◌≤◌, true, false, Option, None, Some, List, length, set, Result, refl, sym, ap, ◌∙◌, subst, true≢false}
use Rattle.std.specs.Prelude.{is_some}
use Rattle.device.specs.Meaning.{Meaning}
use Rattle.device.specs.Memory.{part}
use Rattle.geometry.specs.Geometry.{levels, total}
use Rattle.tree.specs.Layout.{root_of, tree_of}
use Rattle.tree.specs.Paths.{risen, true_part}
use Rattle.volume.specs.declared.register.Register.{Register}
use Rattle.volume.specs.Ledger.{Ledger}
use Rattle.volume.specs.Parts.{Holds}
use Rattle.volume.specs.Promise.{AreContents, AreSound, Counts, Follows, Laid, slip_is_out}
use Rattle.volume.specs.Record.{blank}
use Rattle.volume.specs.Refusals.{Reason, Stuck}
use Rattle.volume.specs.Story.{Made}
use Rattle.volume.specs.View.{Open, View}
use Rattle.volume.specs.Writes.{passed_at}
use Rattle.volume.proofs.Decided.{same_open}
use Rattle.volume.proofs.Results.{none_not_some}
use Rattle.volume.proofs.Lies.{lie_settled}
use Rattle.volume.proofs.Meant.{Fetched, PathPut, Walked}
use Rattle.volume.proofs.Moves.{Moved, write_moves}
use Rattle.volume.proofs.Outcomes.{IsBegun, IsKept, Kept, IsLeft, IsHeld, IsOpened, Outcome, Settles, IsShut, IsUnchanged, Turned, IsWritten, begun, kept, left, not_clear, opened, shut, stands, written}

-- who the volume is
pub record Who (image : List ℕ → List ℕ) (kind : ℕ) (v : View) : Type 0 where
  pub same_image : v.image ≡ image
  pub same_kind : v.kind ≡ kind

-- what the ledger has: n blocks, as last put in and as last kept; with no slip out these are the same
pub record Books (n : ℕ) (l : Ledger) : Type 0 where
  pub contents : AreContents l.contents
  pub kept : AreContents l.kept
  pub count : length l.contents ≡ n
  pub count_kept : length l.kept ≡ n
  pub no_slip : l.slip_out ≡ false → l.contents ≡ l.kept

-- what an open volume has in mind
pub record InMind (image : List ℕ → List ℕ) (n : ℕ) (l : Ledger) (v : View) (p : Open) : Type 0 where
  pub blocks : p.blocks ≡ n
  pub root : p.root ≡ root_of image l.contents
  pub counts : Counts v n

abbrev pub Mind : (List ℕ → List ℕ) → ℕ → Ledger → View → Type 0
Mind image n l v = (p : Open) → v.present ≡ Some p → InMind image n l v p

-- what lies on the cards; `Before` is what has to be so for the sure cells to be the layout, and `Sound` for the devices to be sound
pub record OnCards (image : List ℕ → List ℕ) (Sound Before : Type 0) (contents : List (List ℕ)) (v : View) : Type 0 where
  pub laid : Before → Laid image v.store v.tree contents
  pub sound : Sound → AreSound v

pub record Agrees (image : List ℕ → List ℕ) (kind n : ℕ) (Sound Before : Type 0) (l : Ledger) (v : View) (r : Register) : Type 0 where
  pub who : Who image kind v
  pub follows : Follows l v
  pub books : Books n l
  pub mind : Mind image n l v
  pub register : Holds r n kind (root_of image l.kept)
  pub cards : OnCards image Sound Before l.contents v

-- the tree blocks of a record are the true ones
abbrev pub TrueParts : (List ℕ → List ℕ) → List (List ℕ) → ℕ → List ℕ → Type 0
TrueParts image contents n log = (i : ℕ) → 1 ≤ i → i ≤ levels (length contents) → part log i ≡ true_part image contents n i

-- the volume is open where it has something in mind
pub follows_now : {l : Ledger} {v : View} (mind : Option Open) → v.present ≡ mind → is_some mind ≡ l.is_open → slip_is_out mind ≡ l.slip_out → Follows l v
follows_now mind is here slip = record { open_alike = ap is_some is ∙ here; slip_alike = ap slip_is_out is ∙ slip }

-- an open volume is open in the ledger, with its slip
pub was_open : {l : Ledger} {v : View} (p : Open) → v.present ≡ Some p → Follows l v → (true ≡ l.is_open) × (p.slip_out ≡ l.slip_out)
was_open p is f = (ap is_some (sym is) ∙ f.open_alike, ap slip_is_out (sym is) ∙ f.slip_alike)

pub was_closed : {l : Ledger} {v : View} → v.present ≡ None → Follows l v → (false ≡ l.is_open) × (false ≡ l.slip_out)
was_closed is f = (ap is_some (sym is) ∙ f.open_alike, ap slip_is_out (sym is) ∙ f.slip_alike)

module _ {l : Ledger} {v : View} {r : Register} {m : Made} {l' : Ledger} {v' : View} {r' : Register} where
  -- every call leaves the volume as the ledger has it: open or closed, and with a slip out or none
  pub follows_on : Outcome l v r m l' v' r' → Follows l v → Follows l' v'
  follows_on (stands quiet o) f = subst (λ x. Follows x v') (sym o.ledger) (subst (λ u. Follows l u) (sym o.same) f)
  follows_on (opened quiet o) f = subst (λ x. Follows x v') (sym o.ledger) (follows_now _ o.after.turned.present refl (was_closed o.closed f).1)
  follows_on (begun is answered o) f = subst (λ x. Follows x v') (sym o.ledger) (follows_now _ o.after.turned.present (was_open o.was.mind o.was.present f).0 refl)
  follows_on (shut quiet o) f = subst (λ x. Follows x v') (sym o.ledger) (follows_now _ o.after.turned.present refl (sym o.was.slip ∙ (was_open o.was.mind o.was.present f).1))
  follows_on (left slip is answered own o) f = subst (λ x. Follows x v') (sym o.ledger) (follows_now _ o.after.turned.present refl refl)
  follows_on (kept slip is answered own o) f = subst (λ x. Follows x v') (sym o.ledger) (follows_now _ o.after.turned.present (was_open o.was.mind o.was.present f).0 refl)
  follows_on (not_clear quiet o) f =
      let was = was_open o.was.mind o.was.present f in subst (λ x. Follows x v') (sym o.ledger) (follows_now _ o.after.turned.present was.0 was.1)
  follows_on (written quiet slip n is o) f = let was = was_open o.was.mind o.was.present f in subst (λ x. Follows x v') (sym o.ledger) (follows_now _ o.turned.present was.0 was.1)

-- what an open volume has in mind now
now_in_mind : {image : List ℕ → List ℕ} {n : ℕ} {l : Ledger} {v : View} (p : Open) → v.present ≡ Some p → InMind image n l v p → Mind image n l v
now_in_mind {image} {n} {l} {v} p present here q is = subst (λ q. InMind image n l v q) (same_open p q (sym present ∙ is)) here

nothing_in_mind : {image : List ℕ → List ℕ} {n : ℕ} {l : Ledger} {v : View} → v.present ≡ None → Mind image n l v
nothing_in_mind closed q is = absurd (none_not_some q (sym closed ∙ is))

who_turned : {image : List ℕ → List ℕ} {kind : ℕ} {v v' : View} {mind : Option Open} → Turned v mind v' → Who image kind v → Who image kind v'
who_turned t who = record { same_image = t.image ∙ who.same_image; same_kind = t.kind ∙ who.same_kind }

counts_kept : {n : ℕ} {v v' : View} {mind : Option Open} → Kept v mind v' → Counts v n → Counts v' n
counts_kept {n} k c = record { store = ap (λ m. m.blocks) k.store ∙ c.store; tree = subst (λ m. total n ≤ m.blocks) (sym k.tree) c.tree }

counts_settled : {n : ℕ} {v v' : View} {mind : Option Open} → Settles v mind v' → Counts v n → Counts v' n
counts_settled {n} s c = record { store = s.store.stays.blocks ∙ c.store; tree = subst (λ k. total n ≤ k) (sym s.tree.stays.blocks) c.tree }

module _ {image : List ℕ → List ℕ} {Sound Before After : Type 0} {v v' : View} {mind : Option Open} (under : After → Before) where
  cards_kept : {contents : List (List ℕ)} → Kept v mind v' → OnCards image Sound Before contents v → OnCards image Sound After contents v'
  cards_kept {contents} k c =
      record {
        laid = λ a. subst (λ m. Laid image m v'.tree contents) (sym k.store) (subst (λ m. Laid image v.store m contents) (sym k.tree) (c.laid (under a)));
        sound = λ s. (ap (λ m. m.sound) k.store ∙ (c.sound s).0, ap (λ m. m.sound) k.tree ∙ (c.sound s).1);
      }

  cards_settled : {contents : List (List ℕ)} → Settles v mind v' → OnCards image Sound Before contents v → OnCards image Sound After contents v'
  cards_settled {contents} s c =
      record {
        laid = λ a. let laid = c.laid (under a) in record { in_store = lie_settled contents s.store laid.in_store; in_tree = lie_settled (tree_of image contents) s.tree laid.in_tree };
        sound = λ is. (s.store.stays.sound (c.sound is).0, s.tree.stays.sound (c.sound is).1);
      }

module _ {image : List ℕ → List ℕ} {kind n : ℕ} {Sound Before : Type 0} {l : Ledger} {v : View} {r : Register} where
  -- what is told of an open volume, told by the ledger
  module _ (i : Agrees image kind n Sound Before l v r) (p : Open) (present : v.present ≡ Some p) where
    pub count_of : p.blocks ≡ length l.contents
    count_of = (i.mind p present).blocks ∙ sym i.books.count

    pub counts_of : Counts v (length l.contents)
    counts_of = subst (Counts v) (sym i.books.count) (i.mind p present).counts

    pub fetch_of : (k : ℕ) (answer : Result Unit Reason) (block log : List ℕ) → Fetched v.image v.store v.tree p.blocks k p.root answer block log
        → Fetched image v.store v.tree (length l.contents) k (root_of image l.contents) answer block log
    fetch_of k answer block log f =
        subst (λ im. Fetched im v.store v.tree (length l.contents) k (root_of image l.contents) answer block log) i.who.same_image
        (subst (λ c. Fetched v.image v.store v.tree c k (root_of image l.contents) answer block log) count_of
        (subst (λ x. Fetched v.image v.store v.tree p.blocks k x answer block log) (i.mind p present).root f))

    pub walk_of : (k : ℕ) (walked : Result (List ℕ) Reason) (log : List ℕ) → Walked v.image v.tree p.blocks k (levels p.blocks) p.root blank walked log
        → Walked image v.tree (length l.contents) k (levels (length l.contents)) (root_of image l.contents) blank walked log
    walk_of k walked log w =
        subst (λ im. Walked im v.tree (length l.contents) k (levels (length l.contents)) (root_of image l.contents) blank walked log) i.who.same_image
        (subst (λ c. Walked v.image v.tree c k (levels c) (root_of image l.contents) blank walked log) count_of
        (subst (λ x. Walked v.image v.tree p.blocks k (levels p.blocks) x blank walked log) (i.mind p present).root w))

    -- what a write has made of the devices, over true tree blocks
    pub moved_of : ((b : List ℕ) → length (image b) ≡ 32) → (k : ℕ) → k < p.blocks → (log block : List ℕ) (failed : Option Stuck) (store tree : Meaning)
        → PathPut v.image p.blocks k log block v.store v.tree failed store tree → TrueParts image l.contents k log
        → Moved image l.contents p.blocks k log block v.store v.tree failed store tree
    moved_of wide k inside log block failed store tree put parts =
        write_moves image l.contents i.books.contents wide p.blocks k (subst (λ c. k < c) count_of inside) count_of log block v.store v.tree failed store tree
        (subst (λ im. PathPut im p.blocks k log block v.store v.tree failed store tree) i.who.same_image put) parts

module _ {image : List ℕ → List ℕ} {kind n : ℕ} {Sound Before After : Type 0} {l : Ledger} {v : View} {r : Register} where
  -- what agrees goes on agreeing where more is known before it
  pub agrees_under : (After → Before) → Agrees image kind n Sound Before l v r → Agrees image kind n Sound After l v r
  agrees_under under i =
      record {
        who = i.who;
        follows = i.follows;
        books = i.books;
        mind = i.mind;
        register = i.register;
        cards = record { laid = λ a. i.cards.laid (under a); sound = i.cards.sound };
      }

  module _ {m : Made} {l' : Ledger} {v' : View} {r' : Register} (under : After → Before) (i : Agrees image kind n Sound Before l v r) (follows : Follows l' v') where
    pub stands_on : IsUnchanged l v r m l' v' r' → Agrees image kind n Sound After l' v' r'
    stands_on o =
        subst (λ x. Agrees image kind n Sound After x v' r') (sym o.ledger)
        (subst (λ u. Agrees image kind n Sound After l u r') (sym o.same) (subst (λ s. Agrees image kind n Sound After l v s) (sym o.register) (agrees_under under i)))

    pub opened_on : IsOpened l v r m l' v' r' → Agrees image kind n Sound After l' v' r'
    opened_on o =
        let mind' : Open = record { blocks = r.blocks; root = r.root; slip_out = false } in
        let l2 : Ledger = record l { contents = l.kept; is_open = true } in
        let same : l.contents ≡ l.kept = i.books.no_slip (sym (was_closed o.closed i.follows).1) in
        let counts : Counts v n =
        record { store = o.fits.store_count ∙ i.register.blocks; tree = subst (λ b. total b ≤ v.tree.blocks) i.register.blocks o.fits.tree_count } in
        let here : InMind image n l2 v' mind' = record { blocks = i.register.blocks; root = i.register.root; counts = counts_kept o.after counts } in
        let cards : OnCards image Sound After l.contents v' = cards_kept under o.after i.cards in
        subst (λ x. Agrees image kind n Sound After x v' r') (sym o.ledger)
        (record {
          who = who_turned o.after.turned i.who;
          follows = subst (λ x. Follows x v') o.ledger follows;
          books = record { contents = i.books.kept; kept = i.books.kept; count = i.books.count_kept; count_kept = i.books.count_kept; no_slip = λ is. refl };
          mind = now_in_mind mind' o.after.turned.present here;
          register = subst (λ s. Holds s n kind (root_of image l.kept)) (sym o.register) i.register;
          cards = subst (λ c. OnCards image Sound After c v') same cards;
        })

    pub begun_on : IsBegun l v r m l' v' r' → Agrees image kind n Sound After l' v' r'
    begun_on o =
        let p = o.was.mind in
        let l2 : Ledger = record l { slip_out = true } in
        let was = i.mind p o.was.present in
        let here : InMind image n l2 v' (record p { slip_out = true }) = record { blocks = was.blocks; root = was.root; counts = counts_kept o.after was.counts } in
        subst (λ x. Agrees image kind n Sound After x v' r') (sym o.ledger)
        (record {
          who = who_turned o.after.turned i.who;
          follows = subst (λ x. Follows x v') o.ledger follows;
          books = record { contents = i.books.contents; kept = i.books.kept; count = i.books.count; count_kept = i.books.count_kept; no_slip = λ is. absurd (true≢false is) };
          mind = now_in_mind _ o.after.turned.present here;
          register = subst (λ s. Holds s n kind (root_of image l.kept)) (sym o.register) i.register;
          cards = cards_kept under o.after i.cards;
        })

    pub shut_on : IsShut l v r m l' v' r' → Agrees image kind n Sound After l' v' r'
    shut_on o =
        subst (λ x. Agrees image kind n Sound After x v' r') (sym o.ledger)
        (record {
          who = who_turned o.after.turned i.who;
          follows = subst (λ x. Follows x v') o.ledger follows;
          books = record { contents = i.books.contents; kept = i.books.kept; count = i.books.count; count_kept = i.books.count_kept; no_slip = i.books.no_slip };
          mind = nothing_in_mind o.after.turned.present;
          register = subst (λ s. Holds s n kind (root_of image l.kept)) (sym o.register) i.register;
          cards = cards_kept under o.after i.cards;
        })

    -- nothing is said of the sure cells any more
    pub left_on : (After → ⊥) → IsLeft l v r m l' v' r' → Agrees image kind n Sound After l' v' r'
    left_on never o =
        subst (λ x. Agrees image kind n Sound After x v' r') (sym o.ledger)
        (record {
          who = who_turned o.after.turned i.who;
          follows = subst (λ x. Follows x v') o.ledger follows;
          books = record { contents = i.books.kept; kept = i.books.kept; count = i.books.count_kept; count_kept = i.books.count_kept; no_slip = λ is. refl };
          mind = nothing_in_mind o.after.turned.present;
          register = subst (λ s. Holds s n kind (root_of image l.kept)) (sym o.register) i.register;
          cards = record { laid = λ a. absurd (never a); sound = (cards_kept {Before = Before} {After = After} under o.after i.cards).sound };
        })

    pub kept_on : IsKept l v r m l' v' r' → Agrees image kind n Sound After l' v' r'
    kept_on o =
        let p = o.was.mind in
        let l2 : Ledger = record l { kept = l.contents; slip_out = false } in
        let was = i.mind p o.was.present in
        let here : InMind image n l2 v' (record p { slip_out = false }) = record { blocks = was.blocks; root = was.root; counts = counts_settled o.after was.counts } in
        subst (λ x. Agrees image kind n Sound After x v' r') (sym o.ledger)
        (record {
          who = who_turned o.after.turned i.who;
          follows = subst (λ x. Follows x v') o.ledger follows;
          books = record { contents = i.books.contents; kept = i.books.contents; count = i.books.count; count_kept = i.books.count; no_slip = λ is. refl };
          mind = now_in_mind _ o.after.turned.present here;
          register = record { blocks = o.register.blocks ∙ was.blocks; kind = o.register.kind ∙ i.who.same_kind; root = o.register.root ∙ was.root };
          cards = cards_settled under o.after i.cards;
        })

    pub not_clear_on : IsHeld l v r m l' v' r' → Agrees image kind n Sound After l' v' r'
    not_clear_on o =
        let p = o.was.mind in
        let was = i.mind p o.was.present in
        let here : InMind image n l v' p = record { blocks = was.blocks; root = was.root; counts = counts_settled o.after was.counts } in
        subst (λ x. Agrees image kind n Sound After x v' r') (sym o.ledger)
        (record {
          who = who_turned o.after.turned i.who;
          follows = subst (λ x. Follows x v') o.ledger follows;
          books = i.books;
          mind = now_in_mind p o.after.turned.present here;
          register = subst (λ s. Holds s n kind (root_of image l.kept)) (sym o.register) i.register;
          cards = cards_settled under o.after i.cards;
        })

  module _ {m : Made} {l' : Ledger} {v' : View} {r' : Register} (under : After → Before) (i : Agrees image kind n Sound Before l v r) (follows : Follows l' v') where
    -- a write over true tree blocks
    pub written_on : ((b : List ℕ) → length (image b) ≡ 32) → (k : ℕ) → (o : IsWritten l v r m l' v' r' k) → TrueParts image l.contents k m.log_left → Agrees image kind n Sound After l' v' r'
    written_on wide k o parts =
        let p = o.was.mind in
        let l2 : Ledger = record l { contents = set l.contents k m.block } in
        let was = i.mind p o.was.present in
        let moved = moved_of i p o.was.present wide k o.inside m.log_left m.block o.failed v'.store v'.tree o.put parts in
        let p2 : Open = record p { root = risen v.image p.blocks k (passed_at m.log_left) m.block (levels p.blocks) } in
        let root : p2.root ≡ root_of image (set l.contents k m.block) =
        ap (λ im. risen im p.blocks k (passed_at m.log_left) m.block (levels p.blocks)) i.who.same_image ∙ moved.root in
        let counts : Counts v' n = record { store = moved.stays_store.blocks ∙ was.counts.store; tree = subst (λ c. total n ≤ c) (sym moved.stays_tree.blocks) was.counts.tree } in
        let here : InMind image n l2 v' p2 = record { blocks = was.blocks; root = root; counts = counts } in
        subst (λ x. Agrees image kind n Sound After x v' r') (sym o.ledger)
        (record {
          who = who_turned o.turned i.who;
          follows = subst (λ x. Follows x v') o.ledger follows;
          books =
              record {
                contents = moved.are_contents o.long;
                kept = i.books.kept;
                count = moved.size ∙ i.books.count;
                count_kept = i.books.count_kept;
                no_slip = λ is. absurd (true≢false (sym o.was.slip ∙ (was_open p o.was.present i.follows).1 ∙ is));
              };
          mind = now_in_mind p2 o.turned.present here;
          register = subst (λ s. Holds s n kind (root_of image l.kept)) (sym o.register) i.register;
          cards = record { laid = λ a. moved.lays (i.cards.laid (under a)); sound = λ s. (moved.stays_store.sound (i.cards.sound s).0, moved.stays_tree.sound (i.cards.sound s).1) };
        })
