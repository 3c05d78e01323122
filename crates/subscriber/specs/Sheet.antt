-- What a sheet says: its lines are taken one after the other.
use Rattle.std.specs.Prelude.{◌≡◌, ℕ, ◌+◌, ◌≤◌, Bool, if◌then◌else◌, List, [], ◌∷◌, ◌++◌, flat_map, length, is_some, Some, None, Ok, Err, Option, Result, ◌==◌, nat_lt}
use Rattle.sheet_error.specs.declared.cause.Cause.{Cause}
use Rattle.sheet_error.specs.declared.cause.Cause.TheVariants.{Missing, Repeated, Late, TooManySims}
use Rattle.sheet_error.specs.declared.cause.Header.{Header}
use Rattle.sheet_error.specs.declared.cause.Header.TheVariants.{Tray, Hash, Blocks}
use Rattle.subscriber.specs.declared.tray.HashChoice.{HashChoice}
use Rattle.subscriber.specs.Items.{Entry, Said, nothing, tray_is, hash_is, blocks_are, sim_is, with_ok, then_ok, line_says}
use Rattle.subscriber.specs.Text.{lines}

-- what has been read so far
pub record Draft : Type 0 where
  pub tray : Option ℕ
  pub hash : Option HashChoice
  pub blocks : Option ℕ
  pub sims : List Entry

-- before the first line
abbrev pub empty : Draft
empty = record { tray = None; hash = None; blocks = None; sims = [] }

-- a whole sheet
pub record Whole : Type 0 where
  pub tray : ℕ
  pub hash : HashChoice
  pub blocks : ℕ
  pub sims : List Entry

-- none of the headers may be missing
abbrev pub whole_of : Option ℕ → Option HashChoice → Option ℕ → List Entry → Result Whole Cause
whole_of None h b es = Err (Missing Tray)
whole_of (Some t) None b es = Err (Missing Hash)
whole_of (Some t) (Some h) None es = Err (Missing Blocks)
whole_of (Some t) (Some h) (Some b) es = Ok (record { tray = t; hash = h; blocks = b; sims = es })

-- the sheet that a draft is
abbrev pub whole : Draft → Result Whole Cause
whole d = whole_of d.tray d.hash d.blocks d.sims

-- a header stands before the first SIM, and only once
abbrev pub allowed : Header → Bool → ℕ → Result (Unit {0}) Cause
allowed h there sims = if sims == 0 then (if there then Err (Repeated h) else Ok tt) else Err (Late h)

-- a SIM comes after the headers, and has a block of its own
abbrev pub add : Draft → Entry → Result Draft Cause
add d e =
    then_ok (whole d) (λ w.
    if nat_lt (length d.sims) w.blocks then Ok (record d { sims = d.sims ++ (e ∷ []) }) else Err TooManySims)

-- what is read after a line that says this
abbrev pub next : Draft → Said → Result Draft Cause
next d nothing = Ok d
next d (tray_is n) = with_ok (λ _. record d { tray = Some n }) (allowed Tray (is_some d.tray) (length d.sims))
next d (hash_is h) = with_ok (λ _. record d { hash = Some h }) (allowed Hash (is_some d.hash) (length d.sims))
next d (blocks_are n) = with_ok (λ _. record d { blocks = Some n }) (allowed Blocks (is_some d.blocks) (length d.sims))
next d (sim_is e) = add d e

-- what is read after this line
abbrev pub after_line : Draft → List ℕ → Result Draft Cause
after_line d line = then_ok (line_says line) (next d)

-- a cause, with the number of the line
abbrev pub at_line : {A : Type 0} → ℕ → Result A Cause → Result A (ℕ × Cause)
at_line n (Ok x) = Ok x
at_line n (Err c) = Err (n, c)

-- the lines from number n on; a header that is missing at the end is reported at the line after the last
abbrev pub read_from : ℕ → Draft → List (List ℕ) → Result Whole (ℕ × Cause)
read_from n d [] = at_line n (whole d)
read_from n d (l ∷ ls) = then_ok (at_line n (after_line d l)) (λ e. read_from (n + 1) e ls)

-- the sheet that a text is, or the line that is refused and why
unfoldable pub sheet_of : List ℕ → Result Whole (ℕ × Cause)
sheet_of text = read_from 1 empty (lines text)

-- what a line says of one kind
abbrev pub picked : {A : Type 0} → (Said → List A) → Result Said Cause → List A
picked pick (Ok s) = pick s
picked pick (Err c) = []

-- the same of each line, in their order
abbrev pub gathered : {A : Type 0} → (Said → List A) → List (List ℕ) → List A
gathered pick ls = flat_map (λ l. picked pick (line_says l)) ls

-- the tray's number, where a line has it
abbrev pub a_tray : Said → List ℕ
a_tray (tray_is n) = n ∷ []
a_tray _ = []

-- the hash
abbrev pub a_hash : Said → List HashChoice
a_hash (hash_is h) = h ∷ []
a_hash _ = []

-- the number of blocks
abbrev pub a_count : Said → List ℕ
a_count (blocks_are n) = n ∷ []
a_count _ = []

-- the SIM
abbrev pub a_sim : Said → List Entry
a_sim (sim_is e) = e ∷ []
a_sim _ = []

-- a good sheet: each header stands in just one line, the SIMs are those of the lines `sim` in their order, and each has a block
pub record Listed (text : List ℕ) (w : Whole) : Type 0 where
  pub tray : gathered a_tray (lines text) ≡ w.tray ∷ []
  pub hash : gathered a_hash (lines text) ≡ w.hash ∷ []
  pub blocks : gathered a_count (lines text) ≡ w.blocks ∷ []
  pub sims : gathered a_sim (lines text) ≡ w.sims
  pub few : length w.sims ≤ w.blocks
