-- What a volume promises over every story.
use Rattle.std.specs.Prelude.{◌≡◌, ◌≢◌, ◌⊎◌, ℕ, ◌<◌, ◌≤◌, Bool, true, false, Option, Some, None, is_some, List, [], ◌∷◌, ◌++◌, length, replicate, slice_index_or, Result, Ok, MatchOption}
use Rattle.std.specs.List.{All}
use Rattle.device.specs.declared.source.Source
use Rattle.device.specs.Meaning.{IsSure, Meaning, Stays}
use Rattle.geometry.specs.Geometry.{levels, place, total}
use Rattle.tree.specs.Layout.{root_of, tree_of, zero_block}
use Rattle.volume.specs.declared.register.Register.{Register}
use Rattle.volume.specs.declared.volume.Volume.{Volume}
use Rattle.volume.specs.Calls.{FormatStep, LookStep}
use Rattle.volume.specs.Effects.{Lie}
use Rattle.volume.specs.Extract.{extract}
use Rattle.volume.specs.Ledger.{Ledger, NoLeave, accepted, afresh, fed, feed, path_of, walked}
use Rattle.volume.specs.Parts.{Holds}
use Rattle.volume.specs.Refusals.{Reason}
use Rattle.volume.specs.Story.{Call, Made, State, Step, Story, begins, keeps, leaves, opens, reads, shuts, writes}
use Rattle.volume.specs.View.{Base, Open, View, view}

-- the layout of these contents: the sure cells of the data blocks and of the tree's blocks are theirs
pub record Laid (image : List ℕ → List ℕ) (store tree : Meaning) (contents : List (List ℕ)) : Type 0 where
  pub in_store : Lie store contents
  pub in_tree : Lie tree (tree_of image contents)

-- 1 to 4096 blocks of 512 bytes
pub record AreContents (contents : List (List ℕ)) : Type 0 where
  pub least : 1 ≤ length contents
  pub most : length contents ≤ 4096
  pub whole : All (λ block. length block ≡ 512) contents

-- where a story starts: a closed volume whose register has the root of these contents, and whose sure cells are their layout
pub record Start (v : View) (r : Register) (contents : List (List ℕ)) : Type 0 where
  pub closed : v.present ≡ None
  pub are_contents : AreContents contents
  pub register : Holds r (length contents) v.kind (root_of v.image contents)
  pub laid : Laid v.image v.store v.tree contents

-- the devices have the counts that contents of so many blocks ask for
pub record Counts (v : View) (blocks : ℕ) : Type 0 where
  pub store : v.store.blocks ≡ blocks
  pub tree : total blocks ≤ v.tree.blocks

-- what no call changes: the number of the volume, how many blocks and ways its devices have, and that they are sound
pub record Same (v v' : View) : Type 0 where
  pub number : v'.number ≡ v.number
  pub store : Stays v.store v'.store
  pub tree : Stays v.tree v'.tree

-- whether a slip is out
abbrev pub slip_is_out : Option Open → Bool
slip_is_out None = false
slip_is_out (Some p) = p.slip_out

-- the volume is open, and a slip is out, as the ledger says
pub record Follows (l : Ledger) (v : View) : Type 0 where
  pub open_alike : is_some v.present ≡ l.is_open
  pub slip_alike : slip_is_out v.present ≡ l.slip_out

-- the root as of now of an open volume is that of the ledger's contents
abbrev pub HasRoot : Ledger → View → Type 0
HasRoot l v = (p : Open) → v.present ≡ Some p → p.root ≡ root_of v.image l.contents

-- the block of an accepted read is the ledger's
abbrev pub right : Ledger → Made → Call → Type 0
right l m (reads n) = accepted m.answer ≡ true → m.block_left ≡ slice_index_or l.contents n []
right l m _ = Unit {0}

-- so is that of every accepted read of the story
abbrev pub Right : Ledger → List Made → Type 0
Right l [] = Unit {0}
Right l (m ∷ ms) = right l m m.call × Right (feed l m) ms

module _ (image : List ℕ → List ℕ) where
  -- the extractor finds two different blocks with one image, from the contents, the number of a block and a record
  pub record Collision (contents : List (List ℕ)) (n : ℕ) (log : List ℕ) : Type 0 where
    pub truth : List ℕ
    pub recorded : List ℕ
    pub found : extract image contents n log ≡ Some (truth, recorded)
    pub differ : truth ≢ recorded
    pub alike : image truth ≡ image recorded

  -- this call got past its checks, and from the number of its block, the record that its walk left and the contents before it comes a collision
  abbrev pub shows : Ledger → Made → Type 0
  shows l m = MatchOption (path_of m.call) ⊥ (λ n. (walked m.answer ≡ true) × Collision l.contents n m.log_left)

  -- it does so from one call of the story
  abbrev pub Shows : Ledger → List Made → Type 0
  Shows l [] = ⊥
  Shows l (m ∷ ms) = shows l m ⊎ Shows (feed l m) ms

-- from data block n up to the top, each block has some way that is sure
pub record SurePath (store tree : Meaning) (blocks n : ℕ) : Type 0 where
  pub of_data : (way : ℕ) × (way < store.ways) × IsSure (store.cell way n)
  pub of_tree : (l : ℕ) → l < levels blocks → (way : ℕ) × (way < tree.ways) × IsSure (tree.cell way (place blocks l n).0)

-- what any read or write is asked for: an open volume, a number that there is, areas of the right lengths
pub record Asked (l : Ledger) (n : ℕ) (block log : List ℕ) : Type 0 where
  pub is_open : l.is_open ≡ true
  pub existing : n < length l.contents
  pub block_area : length block ≡ 512
  pub record_area : length log ≡ 2048

-- the volume is open, and no slip is out
pub record NoSlip (l : Ledger) : Type 0 where
  pub is_open : l.is_open ≡ true
  pub none_out : l.slip_out ≡ false

-- a right slip: with the volume's number, while one is out
pub record RightSlip (v : View) (l : Ledger) (slip : ℕ) : Type 0 where
  pub number : slip ≡ v.number
  pub one_out : l.slip_out ≡ true

-- what the ledger asks of a call: then there is no reason to refuse it but the devices'
abbrev pub asks : View → Ledger → Made → Call → Type 0
asks v l m opens = (l.is_open ≡ false) × Counts v (length l.contents)
asks v l m begins = NoSlip l
asks v l m (reads n) = Asked l n m.block m.log
asks v l m (writes slip n) = Asked l n m.block m.log × RightSlip v l slip
asks v l m (keeps slip) = RightSlip v l slip
asks v l m (leaves slip) = RightSlip v l slip
asks v l m shuts = NoSlip l

-- the call is a read or a write, on a path of which each block has some way that is sure
abbrev pub Reached : View → ℕ → Call → Type 0
Reached v blocks c = MatchOption (path_of c) ⊥ (λ n. SurePath v.store v.tree blocks n)

abbrev pub AreSound : View → Type 0
AreSound v = (v.store.sound ≡ true) × (v.tree.sound ≡ true)

-- the devices of a closed volume may be formatted
pub record Formattable (v : View) : Type 0 where
  pub closed : v.present ≡ None
  pub least : 1 ≤ v.store.blocks
  pub most : v.store.blocks ≤ 4096
  pub tree : total v.store.blocks ≤ v.tree.blocks

module _ {D T H : Type 0} (b : Base D T H) where
  -- a story from a start: from w, over these calls, to w'
  pub record FromStart (w : State D T H) (contents : List (List ℕ)) (ms : List Made) (w' : State D T H) : Type 0 where
    pub start : Start (view b w.volume) w.register contents
    pub story : Story b w ms w'

  -- a start on sound devices, and no leave is accepted in the story
  pub record FromSound (w : State D T H) (contents : List (List ℕ)) (ms : List Made) (w' : State D T H) : Type 0 where
    pub from : FromStart w contents ms w'
    pub sound : AreSound (view b w.volume)
    pub no_leave : NoLeave ms

  -- every accepted read had the ledger's block, and the register has the root of what was kept
  pub record ReadsRight (w : State D T H) (contents : List (List ℕ)) (ms : List Made) (w' : State D T H) : Type 0 where
    pub reads : Right (afresh contents) ms
    pub register : Holds w'.register (length contents) b.hash.KIND (root_of (view b w.volume).image (fed (afresh contents) ms).kept)

  -- the sure cells are the layout of what was put in
  abbrev pub LaidOut : State D T H → List (List ℕ) → List Made → State D T H → Type 0
  LaidOut w contents ms w' = Laid (view b w.volume).image (view b w'.volume).store (view b w'.volume).tree (fed (afresh contents) ms).contents

  -- what is promised of every format and of the calls of every story, in any order, accepted and refused
  pub record Promise : Type 0 where
    -- an accepted format makes a start, over as many blocks of zeros as the data device has
    pub formats : (s s' : Volume D T H) (r r' : Register) (answer : Result Unit Reason) → FormatStep b s r answer s' r' → answer ≡ Ok tt
        → Start (view b s') r' (replicate (view b s).store.blocks zero_block) × Counts (view b s') (view b s).store.blocks
    -- on sound devices that may be formatted, it is accepted, and they are sound afterwards
    pub formats_if_sound : (s s' : Volume D T H) (r r' : Register) (answer : Result Unit Reason) → FormatStep b s r answer s' r' → Formattable (view b s) → AreSound (view b s)
        → (answer ≡ Ok tt) × AreSound (view b s')
    -- a story leaves the number of the volume, the counts of its devices, and that they are sound
    pub stays : (w w' : State D T H) (ms : List Made) → Story b w ms w' → Same (view b w.volume) (view b w'.volume)
    -- the volume is open, and a slip is out, exactly as the ledger says
    pub follows : (w w' : State D T H) (contents : List (List ℕ)) (ms : List Made) → FromStart w contents ms w' → Follows (fed (afresh contents) ms) (view b w'.volume)
    -- whatever the devices answer, accepted reads and the register are right: failing this, the extractor shows two different blocks with one image
    pub right_or_shown : (w w' : State D T H) (contents : List (List ℕ)) (ms : List Made) → FromStart w contents ms w'
        → ReadsRight w contents ms w' ⊎ Shows (view b w.volume).image (afresh contents) ms
    -- and so is the root as of now
    pub root_or_shown : (w w' : State D T H) (contents : List (List ℕ)) (ms : List Made) → FromStart w contents ms w'
        → HasRoot (fed (afresh contents) ms) (view b w'.volume) ⊎ Shows (view b w.volume).image (afresh contents) ms
    -- before a leave, the sure cells are the layout of the contents
    pub laid_or_shown : (w w' : State D T H) (contents : List (List ℕ)) (ms : List Made) → FromStart w contents ms w' → NoLeave ms
        → LaidOut w contents ms w' ⊎ Shows (view b w.volume).image (afresh contents) ms
    -- before a leave, a read or a write of which nothing is wanting is accepted if each block of its path has a sure cell
    pub goes_or_shown : (w v w' : State D T H) (contents : List (List ℕ)) (ms : List Made) (m : Made) → FromStart w contents ms v → NoLeave ms → Step b v m w'
        → asks (view b v.volume) (fed (afresh contents) ms) m m.call → Reached (view b v.volume) (length (fed (afresh contents) ms).contents) m.call
        → (accepted m.answer ≡ true) ⊎ Shows (view b w.volume).image (afresh contents) (ms ++ m ∷ [])
    -- on sound devices all this holds without the extractor, before a leave; and every call is accepted of which nothing is wanting
    pub right_if_sound : (w w' : State D T H) (contents : List (List ℕ)) (ms : List Made) → FromSound w contents ms w' → ReadsRight w contents ms w'
    pub root_if_sound : (w w' : State D T H) (contents : List (List ℕ)) (ms : List Made) → FromSound w contents ms w' → HasRoot (fed (afresh contents) ms) (view b w'.volume)
    pub laid_if_sound : (w w' : State D T H) (contents : List (List ℕ)) (ms : List Made) → FromSound w contents ms w' → LaidOut w contents ms w'
    pub goes_if_sound : (w v w' : State D T H) (contents : List (List ℕ)) (ms : List Made) (m : Made) → FromSound w contents ms v → Step b v m w'
        → asks (view b v.volume) (fed (afresh contents) ms) m m.call → accepted m.answer ≡ true
    -- sound devices that are laid out for some contents, under a register with their root: the volume opens, and then reads every block exactly
    pub reads_exactly : (w v w' : State D T H) (contents : List (List ℕ)) (m o : Made) (n : ℕ) → Start (view b w.volume) w.register contents → Counts (view b w.volume) (length contents) → AreSound (view b w.volume)
        → Step b w o v → o.call ≡ opens → Step b v m w' → m.call ≡ reads n → n < length contents → length m.block ≡ 512 → length m.log ≡ 2048
        → (o.answer ≡ Ok tt) × (m.answer ≡ Ok tt) × (m.block_left ≡ slice_index_or contents n [])

-- look on sound sources that are laid out for these contents, with a register that has their root: it reads exactly them
module _ {S U : Type 0} (g : Source.Ghosts S) (h : Source.Ghosts U) (image : List ℕ → List ℕ) (kind : ℕ) where
  pub record Showing (s : S) (t : U) (r : Register) (contents : List (List ℕ)) : Type 0 where
    pub sound_store : (g.meaning s).sound ≡ true
    pub sound_tree : (h.meaning t).sound ≡ true
    pub are_contents : AreContents contents
    pub register : Holds r (length contents) kind (root_of image contents)
    pub laid : Laid image (g.meaning s) (h.meaning t) contents
    pub store_count : (g.meaning s).blocks ≡ length contents
    pub tree_count : total (length contents) ≤ (h.meaning t).blocks

  abbrev pub LooksExactly : Type 0
  LooksExactly =
      (s s' : S) (t t' : U) (r : Register) (contents : List (List ℕ)) (n : ℕ) (block log block' log' : List ℕ) (answer : Result Unit Reason) → Showing s t r contents
      → n < length contents → length block ≡ 512 → length log ≡ 2048 → LookStep g h image kind s t r n block log answer block' log' s' t'
      → (answer ≡ Ok tt) × (block' ≡ slice_index_or contents n [])
