-- From the text of a sheet to the report of its label, and to the images of the tray's two cards.
use Rattle.std.specs.Prelude.{◌≡◌, ℕ, ◌-◌, List, ◌++◌, map, length, replicate, Ok, Err, vec_items, string_bytes, Result, String}
use Rattle.std.specs.declared.alloc.Global.{Global}
use Rattle.digest.specs.Sha256.{salted_cell}
use Rattle.digest.specs.SipHash.{sip_cell}
use Rattle.subscriber.specs.Answer.{plain_sheet}
use Rattle.sim.specs.Block.{sim_block}
use Rattle.subscriber.specs.Sheet.{sheet_of}
use Rattle.sheet_error.specs.declared.cause.SheetError.{SheetError}
use Rattle.sheet_error.specs.declared.cause.SheetError.TheVariants as error
use Rattle.subscriber.specs.declared.sheet.Sheet.{Sheet}
use Rattle.sim.specs.declared.Sim.{Sim}
use Rattle.subscriber.specs.declared.tray.HashChoice.{HashChoice}
use Rattle.subscriber.specs.declared.tray.HashChoice.TheVariants.{Sha256, SipHash}
use Rattle.tree.specs.Layout.{zero_block, tree_of, root_of}
use Rattle.label.specs.declared.cards.Images.{Images}
use Rattle.label.specs.Report.{report_with}

-- the hash that a sheet names: the image of a block under it, and its kind
abbrev pub image_for : HashChoice → List ℕ → List ℕ
image_for (Sha256 salt) = salted_cell salt
image_for (SipHash key) = sip_cell key

abbrev pub kind_for : HashChoice → ℕ
kind_for (Sha256 salt) = 1
kind_for (SipHash key) = 2

-- the volume of a tray: SIM k in block k, and zeros in every block after the last SIM
abbrev pub volume_of : List Sim → ℕ → List (List ℕ)
volume_of sims blocks = map sim_block sims ++ replicate (blocks - length sims) zero_block

-- the volume of a sheet: the blocks of the data card, from block 0 on
abbrev pub sheet_volume : Sheet → List (List ℕ)
sheet_volume s = volume_of (vec_items s.sims) s.blocks.value

-- the tree over it: the blocks of the tree card, from block 0 on
abbrev pub sheet_tree : Sheet → List (List ℕ)
sheet_tree s = tree_of (image_for s.hash) (sheet_volume s)

-- the root of a sheet's volume
abbrev pub sheet_root : Sheet → List ℕ
sheet_root s = root_of (image_for s.hash) (sheet_volume s)

-- the report of a sheet
abbrev pub report_of : Sheet → List ℕ
report_of s = report_with s.tray.value s.blocks.value (vec_items s.sims) (kind_for s.hash) (sheet_root s)

-- what is answered to the text of a sheet: the report of what it says, or the line that is refused and why; want of memory may come at any time
abbrev pub Labelled : List ℕ → Result (String Global) SheetError → Type 0
Labelled text (Ok s) = (sheet : Sheet) × (sheet_of text ≡ Ok (plain_sheet sheet)) × (string_bytes s ≡ report_of sheet)
Labelled text (Err (error.Bad line cause)) = sheet_of text ≡ Err (line, cause)
Labelled text (Err error.NoMemory) = Unit {0}

-- the report of a sheet, and the blocks of its two cards in their order
pub record MadeOf (s : Sheet) (i : Images) : Type 0 where
  pub report : string_bytes i.report ≡ report_of s
  pub volume : vec_items i.volume ≡ sheet_volume s
  pub tree : vec_items i.tree ≡ sheet_tree s

-- the same where the cards are made too: all three of what the text says
abbrev pub Imaged : List ℕ → Result Images SheetError → Type 0
Imaged text (Ok i) = (sheet : Sheet) × (sheet_of text ≡ Ok (plain_sheet sheet)) × MadeOf sheet i
Imaged text (Err (error.Bad line cause)) = sheet_of text ≡ Err (line, cause)
Imaged text (Err error.NoMemory) = Unit {0}
