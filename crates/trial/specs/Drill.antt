-- What a drill prints, and of which calls.
use Rattle.std.specs.Prelude.{◌≡◌, ℕ, ◌+◌, ◌-◌, Option, Some, None, List, [], ◌∷◌, ◌++◌, length, map, replicate, slice_get, codes, decimal, vec_items, Result, Ok, Err, String}
use Rattle.std.specs.declared.alloc.Global.{Global}
use Rattle.device.specs.declared.cache.Cache.{Cache}
use Rattle.device.specs.declared.crooked.Crooked.{Crooked}
use Rattle.device.specs.declared.crooked.Listed.{Listed}
use Rattle.device.specs.declared.crooked.Manner.{Manner}
use Rattle.device.specs.declared.crooked.Manner.TheVariants.{Refuses, Flips, Keeps}
use Rattle.device.specs.declared.device.Device
use Rattle.device.specs.declared.mirror.Mirror.{Mirror}
use Rattle.device.specs.declared.source.Source
use Rattle.device.specs.Cache.{cache_below, cache_lines}
use Rattle.device.specs.Crooked.{crooked_meaning, crooked_reads, crooked_settles, crooked_writes}
use Rattle.device.specs.Mirror.{mirror_of}
use Rattle.device.specs.Piles.{cache, mirror, one, other, pile_device, pile_source}
use Rattle.digest.specs.declared.hash.Hash
use Rattle.geometry.specs.Geometry.{total}
use Rattle.label.specs.Label.{sheet_volume}
use Rattle.sim.specs.Block.{sim_block}
use Rattle.subscriber.specs.declared.sheet.Sheet.{Sheet}
use Rattle.subscriber.specs.declared.tray.HashChoice.{HashChoice}
use Rattle.subscriber.specs.declared.tray.HashChoice.TheVariants as choice
use Rattle.trial.specs.declared.drilling.Run.{Run}
use Rattle.trial.specs.declared.failure.Failure.{Failure}
use Rattle.trial.specs.declared.reads.RefusedRead.{RefusedRead}
use Rattle.trial.specs.declared.reads.Tally.{Tally}
use Rattle.trial.specs.Good.{GoodCard}
use Rattle.trial.specs.Lists.{AllAccepted, asked, read_list, write_list}
use Rattle.trial.specs.Played.{CarriedOut}
use Rattle.trial.specs.Trial.{Answered, card_device, card_source, sha256_ghosts, siphash_ghosts}
use Rattle.volume.specs.declared.entry.Call.{Call}
use Rattle.volume.specs.declared.entry.Call.TheVariants.{Read}
use Rattle.volume.specs.declared.entry.Entry.{Entry}
use Rattle.volume.specs.declared.refusal.Refusal.{Refusal}
use Rattle.volume.specs.declared.register.Register.{Register}
use Rattle.volume.specs.declared.volume.Volume.{Volume}
use Rattle.volume.specs.Calls.{FormatStep}
use Rattle.volume.specs.Refusals.{Stuck, fault_numbers, reason}
use Rattle.volume.specs.Story.{State, state}
use Rattle.volume.specs.View.{Base, base, open_of}

-- the bad blocks: data block 0, and the last tree block
abbrev pub bad_line : ℕ → List ℕ
bad_line last = codes "bad blocks: data 0, tree " ++ (decimal last ++ codes "\n")

abbrev pub manner_word : Manner → List ℕ
manner_word Refuses = codes "refuses"
manner_word Flips = codes "flips"
manner_word Keeps = codes "keeps"

-- the line over a run: how card 1 is bad, and how card 2 is, if it is
abbrev pub heading_of : Manner → Option Manner → List ℕ
heading_of first None = codes "card 1 " ++ (manner_word first ++ codes "\n")
heading_of first (Some second) = codes "card 1 " ++ (manner_word first ++ (codes ", card 2 " ++ (manner_word second ++ codes " at the reads\n")))

abbrev pub heading : Run → List ℕ
heading run = heading_of run.first run.second

-- how many reads were right and how many refused
abbrev pub counts_line : ℕ → ℕ → List ℕ
counts_line right refused = codes "reads: " ++ (decimal right ++ (codes " right, " ++ (decimal refused ++ codes " refused\n")))

-- cause, place and climbed
abbrev pub fault_words : ℕ × ℕ × ℕ → List ℕ
fault_words numbers = decimal numbers.0 ++ (codes ", " ++ (decimal numbers.1 ++ (codes ", " ++ decimal numbers.2)))

-- where a read got stuck, if a device is to blame
abbrev pub blame_words : Option Stuck → List ℕ
blame_words None = []
blame_words (Some s) =
    codes ", side " ++ (decimal s.side ++ (codes ", level " ++ (decimal s.level ++ (codes ", block " ++ (decimal s.block ++ (codes ", fault " ++ fault_words (fault_numbers s.fault)))))))

abbrev pub refused_words : RefusedRead → List ℕ
refused_words r = codes "block " ++ (decimal r.number ++ (codes ": refusal " ++ (decimal (reason r.refusal).number ++ blame_words (reason r.refusal).stuck)))

-- a line for each refused read
abbrev pub refused_lines : List RefusedRead → List ℕ
refused_lines [] = []
refused_lines (r ∷ rs) = (refused_words r ++ codes "\n") ++ refused_lines rs

-- a read counts where it was accepted
abbrev pub read_counted : Option (Result Unit Refusal) → ℕ
read_counted (Some (Ok done)) = 1
read_counted (Some (Err refusal)) = 0
read_counted None = 0

abbrev pub counted : Call → Option (Result Unit Refusal) → ℕ
counted (Read n) answer = read_counted answer
counted _ answer = 0

-- how many reads of a list were accepted
abbrev pub accepted_reads : List Entry → ℕ
accepted_reads [] = 0
accepted_reads (e ∷ es) = counted e.call e.answer + accepted_reads es

abbrev pub read_refused : ℕ → Option (Result Unit Refusal) → List RefusedRead
read_refused n (Some (Err refusal)) = record { number = n; refusal = refusal } ∷ []
read_refused n (Some (Ok done)) = []
read_refused n None = []

abbrev pub refused : Call → Option (Result Unit Refusal) → List RefusedRead
refused (Read n) answer = read_refused n answer
refused _ answer = []

-- the reads of a list that were refused, in its order
abbrev pub refused_reads : List Entry → List RefusedRead
refused_reads [] = []
refused_reads (e ∷ es) = refused e.call e.answer ++ refused_reads es

-- a read was made, and where it was accepted, it left the written block of its number in its area
abbrev pub read_right : List (List ℕ) → ℕ → Option (Result Unit Refusal) → List ℕ → Type 0
read_right written n (Some (Ok done)) area = slice_get written n ≡ Some area
read_right written n (Some (Err refusal)) area = Unit {0}
read_right written n None area = ⊥

-- any other call was accepted
abbrev pub right : List (List ℕ) → Call → Option (Result Unit Refusal) → List ℕ → Type 0
right written (Read n) answer area = read_right written n answer area
right written _ answer area = answer ≡ Some (Ok tt)

abbrev pub AllRight : List (List ℕ) → List Entry → Type 0
AllRight written [] = Unit {0}
AllRight written (e ∷ es) = right written e.call e.answer e.block.items × AllRight written es

-- what a tally has of a list that was carried out
pub record Tallied (written : List (List ℕ)) (es : List Entry) (t : Tally) : Type 0 where
  pub right : t.right ≡ accepted_reads es
  pub refused : vec_items t.refused ≡ refused_reads es
  pub all_right : AllRight written es

-- what a run prints of the reads that were carried out
unfoldable pub run_text : Run → List Entry → List ℕ
run_text run answered = heading run ++ (counts_line (accepted_reads answered) (length (refused_reads answered)) ++ refused_lines (refused_reads answered))

-- the six runs
abbrev pub runs : List Run
runs =
    record { first = Refuses; second = None }
    ∷ record { first = Flips; second = None }
    ∷ record { first = Keeps; second = None }
    ∷ record { first = Refuses; second = Some Refuses }
    ∷ record { first = Flips; second = Some Flips }
    ∷ record { first = Keeps; second = Some Refuses }
    ∷ []

-- a run before the reads: card 1 alone is bad
abbrev pub at_first : Run → Run
at_first run = record { first = run.first; second = None }

-- a block that is listed as bad, if it is
abbrev pub listed : ℕ → Option Manner → List Listed
listed block None = []
listed block (Some manner) = record { block = block; manner = manner } ∷ []

abbrev pub last_of : List (List ℕ) → ℕ
last_of written = total (length written) - 1

-- two regions as one, with a cache above
abbrev pub Pile : Type 0 → Type 0
Pile A = Cache (Mirror A A)

-- a closed volume with this number, under this hash: its data device is these two regions with an empty cache above, and so is its tree device
pub record VolumeOver {A H : Type 0} (number : ℕ) (h : H) (data_1 data_2 tree_1 tree_2 : A) (v : Volume (Pile A) (Pile A) H) : Type 0 where
  pub numbered : v.number ≡ number
  pub under : v.hash ≡ h
  pub closed : open_of v.present ≡ None
  pub over : cache_below v.store ≡ mirror_of data_1 data_2
  pub beside : cache_below v.tree ≡ mirror_of tree_1 tree_2
  pub store_empty : cache_lines v.store ≡ replicate 8 None
  pub tree_empty : cache_lines v.tree ≡ replicate 8 None

module _ {A H : Type 0} (source : Source.Ghosts A) (device : Device.Ghosts A) (hash : Hash.Ghosts H) where
  abbrev pub over_cards : Base (Pile A) (Pile A) H
  over_cards =
      base (pile_source source source (cache (mirror one other))) (pile_source source source (cache (mirror one other)))
      (pile_device source source device device (cache (mirror one other))) (pile_device source source device device (cache (mirror one other))) hash

module _ {A : Type 0} (source : Source.Ghosts A) where
  abbrev pub crooked_source : Source.Ghosts (Crooked A)
  crooked_source = record { meaning = crooked_meaning source; reads = crooked_reads source }

  abbrev pub crooked_device : Device.Ghosts A → Device.Ghosts (Crooked A)
  crooked_device device = record { writes = crooked_writes source device; settles = crooked_settles source device }

-- over the cards of a box
module _ {A H : Type 0} (source : Source.Ghosts A) (device : Device.Ghosts A) (hash : Hash.Ghosts H) where
  -- a format was accepted, on good cards with room for so many blocks and their tree; this is the register afterwards
  pub record Formatted (number : ℕ) (h : H) (blocks : ℕ) (r : Register) : Type 0 where
    pub data_1 : A
    pub data_2 : A
    pub tree_1 : A
    pub tree_2 : A
    pub volume : Volume (Pile A) (Pile A) H
    pub made : VolumeOver number h data_1 data_2 tree_1 tree_2 volume
    pub room : GoodCard (source.meaning data_1) blocks × GoodCard (source.meaning data_2) blocks
    pub tree_room : GoodCard (source.meaning tree_1) (total blocks) × GoodCard (source.meaning tree_2) (total blocks)
    pub before : Register
    pub after : Volume (Pile A) (Pile A) H
    pub format : FormatStep (over_cards source device hash) volume before (Ok tt) after r

  -- a list that asks for these calls was carried out, on cards that are bad as in this run
  pub record Played (number : ℕ) (h : H) (last : ℕ) (run : Run) (calls : List (Call × List ℕ × ℕ)) (r : Register) (answered : List Entry) (r' : Register) : Type 0 where
    pub data_1 : Crooked A
    pub data_2 : Crooked A
    pub tree_1 : Crooked A
    pub tree_2 : Crooked A
    pub bad_data_1 : data_1.listed.now ≡ listed 0 (Some run.first)
    pub bad_data_2 : data_2.listed.now ≡ listed 0 run.second
    pub bad_tree_1 : tree_1.listed.now ≡ listed last (Some run.first)
    pub bad_tree_2 : tree_2.listed.now ≡ listed last run.second
    pub volume : Volume (Pile (Crooked A)) (Pile (Crooked A)) H
    pub made : VolumeOver number h data_1 data_2 tree_1 tree_2 volume
    pub list : List Entry
    pub asks : map asked list ≡ calls
    pub after : State (Pile (Crooked A)) (Pile (Crooked A)) H
    pub carried_out : CarriedOut (over_cards (crooked_source source) (crooked_device source device) hash) (state volume r) list answered after
    pub register : r' ≡ after.register

  -- the SIMs' blocks were put in and kept, and every call was accepted
  pub record Written (number : ℕ) (h : H) (last : ℕ) (run : Run) (sims : List (List ℕ)) (r r' : Register) : Type 0 where
    pub written : List Entry
    pub played : Played number h last (at_first run) (write_list sims) r written r'
    pub accepted : AllAccepted written

  -- A run: a format of as many blocks as the volume has; then the SIMs' blocks are put in and kept; then every block is read, with these answers. Each accepted read gave the block that was
  -- written, and with one bad card none was refused. The register passes from one to the next.
  pub record Ran (number : ℕ) (h : H) (sims written : List (List ℕ)) (run : Run) (answered : List Entry) : Type 0 where
    pub formatted : Register
    pub format : Formatted number h (length written) formatted
    pub kept : Register
    pub writes : Written number h (last_of written) run sims formatted kept
    pub end : Register
    pub reads : Played number h (last_of written) run (read_list (length written)) kept answered end
    pub all_right : AllRight written answered
    pub one_bad : run.second ≡ None → refused_reads answered ≡ []

  -- what is printed of one run after the other
  pub record RanThen (number : ℕ) (h : H) (sims written : List (List ℕ)) (run : Run) (text : List ℕ) (Others : List ℕ → Type 0) : Type 0 where
    pub answered : List Entry
    pub ran : Ran number h sims written run answered
    pub others : List ℕ
    pub printed : text ≡ run_text run answered ++ others
    pub then : Others others

  abbrev pub AllRan : ℕ → H → List (List ℕ) → List (List ℕ) → List Run → List ℕ → Type 0
  AllRan number h sims written [] text = text ≡ []
  AllRan number h sims written (run ∷ runs) text = RanThen number h sims written run text (AllRan number h sims written runs)

-- over two cards in memory, with what a sheet asks for: the line of the bad blocks, and then every run
module _ {H : Type 0} (hash : Hash.Ghosts H) where
  -- `blocks` says that the volume is as long as the sheet asks
  pub record DrilledUnder (h : H) (s : Sheet) (text : List ℕ) : Type 0 where
    pub blocks : length (sheet_volume s) ≡ s.blocks.value
    pub rest : List ℕ
    pub printed : text ≡ bad_line (last_of (sheet_volume s)) ++ rest
    pub all_ran : AllRan card_source card_device hash s.tray.value h (map sim_block (vec_items s.sims)) (sheet_volume s) runs rest

-- under the hash that the sheet names
abbrev pub Drills : Sheet → HashChoice → List ℕ → Type 0
Drills s (choice.Sha256 salt) text = DrilledUnder sha256_ghosts (record { salt = salt }) s text
Drills s (choice.SipHash key) text = DrilledUnder siphash_ghosts (record { key = key }) s text

-- what a drill answers to the text of a sheet
abbrev pub Drilled : List ℕ → Result (String Global) Failure → Type 0
Drilled = Answered (λ s text. Drills s s.hash text)
