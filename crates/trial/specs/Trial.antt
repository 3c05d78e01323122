-- What a trial on good cards prints, and what any trial answers to a sheet's text.
use Rattle.std.specs.Prelude.{◌≡◌, ℕ, List, ◌++◌, map, codes, decimal, vec_items, vec_len, string_bytes, Ok, Err, Result, String}
use Rattle.std.specs.declared.alloc.Global.{Global}
use Rattle.device.specs.declared.cache.Cache.{Cache}
use Rattle.device.specs.declared.device.Device
use Rattle.device.specs.declared.memory.Memory.{Memory}
use Rattle.device.specs.declared.mirror.Mirror.{Mirror}
use Rattle.device.specs.declared.source.Source
use Rattle.device.specs.Memory.{memory_meaning, memory_reads, memory_settles, memory_writes}
use Rattle.device.specs.Piles.{cache, mirror, one, other, pile_device, pile_source}
use Rattle.digest.specs.declared.hash.Hash
use Rattle.digest.specs.declared.sha256.SaltedSha256.{SaltedSha256}
use Rattle.digest.specs.declared.siphash.SipHash.{SipHash}
use Rattle.digest.specs.Sha256.{salted_cell}
use Rattle.digest.specs.SipHash.{sip_cell}
use Rattle.geometry.specs.Geometry.{total}
use Rattle.label.specs.Label.{report_of, sheet_volume}
use Rattle.label.specs.Report.{ReportFrom}
use Rattle.sim.specs.Block.{sim_block}
use Rattle.sheet_error.specs.declared.cause.SheetError.{SheetError}
use Rattle.sheet_error.specs.declared.cause.SheetError.TheVariants as error
use Rattle.subscriber.specs.Answer.{plain_sheet}
use Rattle.subscriber.specs.Sheet.{sheet_of}
use Rattle.subscriber.specs.declared.sheet.Sheet.{Sheet}
use Rattle.subscriber.specs.declared.tray.HashChoice.{HashChoice}
use Rattle.subscriber.specs.declared.tray.HashChoice.TheVariants as choice
use Rattle.trial.specs.Played.{Trial}
use Rattle.tree.specs.Layout.{root_of}
use Rattle.volume.specs.declared.register.Register.{Register}
use Rattle.volume.specs.Parts.{Holds}
use Rattle.volume.specs.View.{base}
use Rattle.trial.specs.declared.failure.Failure.{Failure}
use Rattle.trial.specs.declared.failure.Failure.TheVariants as failure

-- the stages: the format, the list that writes, and the list that reads
abbrev pub format_line : ℕ → ℕ → List ℕ
format_line blocks tree = codes "format: " ++ (decimal blocks ++ (codes " data blocks, " ++ (decimal tree ++ codes " tree blocks\n")))

abbrev pub write_lines : ℕ → List ℕ
write_lines sims = codes "open\nbegin\nwrite: " ++ (decimal sims ++ codes " blocks\nkeep\nshut\n")

abbrev pub read_lines : ℕ → List ℕ
read_lines blocks = codes "open\nread: " ++ (decimal blocks ++ codes " blocks, each as written\nshut\n")

-- a line for each stage
abbrev pub stage_lines : Sheet → List ℕ
stage_lines s = format_line s.blocks.value (total s.blocks.value) ++ (write_lines (vec_len s.sims) ++ read_lines s.blocks.value)

-- and then the label's report, whose SIMs are those of the blocks that were read
pub record Prints (s : Sheet) (read : List (List ℕ)) (kind : ℕ) (root text : List ℕ) : Type 0 where
  pub report : List ℕ
  pub printed : text ≡ stage_lines s ++ report
  pub of_blocks : ReportFrom s.tray.value s.blocks.value (vec_len s.sims) read kind root report

-- what the cards of a box in memory say of themselves
abbrev pub card_source : Source.Ghosts Memory
card_source = record { meaning = memory_meaning; reads = memory_reads }

abbrev pub card_device : Device.Ghosts Memory
card_device = record { writes = memory_writes; settles = memory_settles }

-- two of them as one, with a cache above
abbrev pub BoxPile : Type 0
BoxPile = Cache (Mirror Memory Memory)

abbrev pub box_source : Source.Ghosts BoxPile
box_source = pile_source card_source card_source (cache (mirror one other))

abbrev pub box_device : Device.Ghosts BoxPile
box_device = pile_device card_source card_source card_device card_device (cache (mirror one other))

-- A sheet's tray was taken through a volume over such piles, under this hash: the SIMs' blocks were put in and kept, and all blocks were
-- read. What came back are the blocks of the sheet, the register has their root, and the text is made from the two.
module _ {H : Type 0} (hash : Hash.Ghosts H) where
  pub record LoadedUnder (h : H) (s : Sheet) (text : List ℕ) : Type 0 where
    pub read : List (List ℕ)
    pub register : Register
    pub trial : Trial (base box_source box_source box_device box_device hash) s.tray.value h (map sim_block (vec_items s.sims)) s.blocks.value read register
    pub read_back : read ≡ sheet_volume s
    pub entered : Holds register s.blocks.value hash.KIND (root_of (hash.image h) (sheet_volume s))
    pub prints : Prints s read register.kind register.root text

abbrev pub sha256_ghosts : Hash.Ghosts SaltedSha256
sha256_ghosts = record { KIND = 1; LENGTH = 32; image = λ h block. salted_cell h.salt block }

abbrev pub siphash_ghosts : Hash.Ghosts SipHash
siphash_ghosts = record { KIND = 2; LENGTH = 8; image = λ h block. sip_cell h.key block }

-- under the hash that the sheet names
abbrev pub Loads : Sheet → HashChoice → List ℕ → Type 0
Loads s (choice.Sha256 salt) text = LoadedUnder sha256_ghosts (record { salt = salt }) s text
Loads s (choice.SipHash key) text = LoadedUnder siphash_ghosts (record { key = key }) s text

-- what a load answers to the text of a sheet: what it printed of a trial of which every call was accepted, the stages and then just the
-- report that its label has; or the line that is refused and why; or that memory ran out, which may come at any time
abbrev pub Loaded : List ℕ → Result (String Global) SheetError → Type 0
Loaded text (Ok t) = (s : Sheet) × (sheet_of text ≡ Ok (plain_sheet s)) × Loads s s.hash (string_bytes t) × (string_bytes t ≡ stage_lines s ++ report_of s)
Loaded text (Err (error.Bad line cause)) = sheet_of text ≡ Err (line, cause)
Loaded text (Err error.NoMemory) = Unit {0}

-- what a trial answers to the text of a sheet: where it went well, this of the sheet and of what is printed; or the line that is refused
-- and why; or that the trial went wrong, or that memory ran out
abbrev pub Answered : (Sheet → List ℕ → Type 0) → List ℕ → Result (String Global) Failure → Type 0
Answered Says text (Ok t) = (s : Sheet) × (sheet_of text ≡ Ok (plain_sheet s)) × Says s (string_bytes t)
Answered Says text (Err (failure.Sheet (error.Bad line cause))) = sheet_of text ≡ Err (line, cause)
Answered Says text (Err (failure.Sheet error.NoMemory)) = Unit {0}
Answered Says text (Err (failure.Trial stuck)) = Unit {0}
