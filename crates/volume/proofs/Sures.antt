-- What sure cells decide when their block is looked for.
use Rattle.std.proofs.Common.{◌≡◌, ℕ, ◌<◌, Option, None, Some, List, Result, Ok, Err, refl, sym, ap, ◌∙◌}
use Rattle.device.specs.declared.fault.Fault.{Fault}
use Rattle.device.specs.Meaning.{Cell, sure, loose, IsSure, Meaning, Exists, MayAnswer, CanRead}
use Rattle.volume.proofs.Meant.{FailsWith, Passes, NoneOf}
use Rattle.volume.proofs.Results.{ok_in, ok_not_err}

module _ (image : List ℕ → List ℕ) (m : Meaning) (n : ℕ) (block : List ℕ) (lies : (way : ℕ) (bytes : List ℕ) → Exists m way n → m.cell way n ≡ sure bytes → bytes ≡ block) where
  answers_so : (c : Cell) (way : ℕ) (answer : Result (List ℕ) Fault) → Exists m way n → m.cell way n ≡ c → IsSure c → MayAnswer c answer → answer ≡ Ok block
  answers_so (sure bytes) way answer there is steady may = may ∙ ap Ok (lies way bytes there is)
  answers_so loose way answer there is steady may = absurd steady

  -- a way whose cell is sure answers the block that lies there
  pub sure_answers : (way : ℕ) (answer : Result (List ℕ) Fault) → Exists m way n → IsSure (m.cell way n) → CanRead m way n answer → answer ≡ Ok block
  sure_answers way answer there steady can = answers_so (m.cell way n) way answer there refl steady (can.then_cell there)

  sure_bytes : (way : ℕ) (bytes : List ℕ) → Exists m way n → IsSure (m.cell way n) → CanRead m way n (Ok bytes) → bytes ≡ block
  sure_bytes way bytes there steady can = ap (ok_in bytes) (sure_answers way (Ok bytes) there steady can)

  never_fails : (why : Option Fault) (way : ℕ) → Exists m way n → IsSure (m.cell way n) → FailsWith image m n (image block) way why → ⊥
  never_fails None way there steady fails = fails.other (ap image (sure_bytes way fails.bytes there steady fails.answered))
  never_fails (Some fault) way there steady can = ok_not_err block fault (sym (sure_answers way (Err fault) there steady can))

  -- with a sure cell in one way, some way passes
  pub sure_passes : (why : Option Fault) (way : ℕ) → Exists m way n → IsSure (m.cell way n) → NoneOf image m n (image block) m.ways why → ⊥
  sure_passes why way there steady none = let f = none.all way there.way_below in never_fails f.why way there steady f.fails

  -- with sure cells in all ways, what passes is the block that lies there
  pub passes_truly : (expected bytes : List ℕ) → n < m.blocks → ((way : ℕ) → Exists m way n → IsSure (m.cell way n)) → Passes image m n expected bytes → bytes ≡ block
  passes_truly expected bytes below steady passes =
      let there : Exists m passes.way n = record { way_below = passes.below; below = below } in sure_bytes passes.way bytes there (steady passes.way there) passes.answered
