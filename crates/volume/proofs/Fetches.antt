-- A read, by what its walk came to.
use Rattle.std.proofs.Common.{◌≡◌, ℕ, List, Result, Ok, Err, refl, subst}
use Rattle.device.specs.declared.source.Source
use Rattle.device.specs.Zeros.{zeros}
use Rattle.geometry.specs.Geometry.{levels}
use Rattle.volume.specs.declared.refusal.Refusal.{Refusal}
use Rattle.volume.specs.Record.{blank}
use Rattle.volume.specs.Refusals.{Reason, reason, told}
use Rattle.volume.specs.Walk.{Fetched, FetchedBlock, Walked}

module _ {S U : Type 0} (g : Source.Ghosts S) (h : Source.Ghosts U) (image : List ℕ → List ℕ) (blocks n : ℕ) (root : List ℕ) (store : S) (tree tree' : U) (walked : Result (List ℕ) Refusal) (passed : List ℕ) where
  abbrev Walk : Result (List ℕ) Refusal → Type 0
  Walk answer = Walked h image blocks n (levels blocks) root blank tree (told answer) passed tree'

  -- it got stuck
  pub fetched_none : (refusal : Refusal) (block : List ℕ) → walked ≡ Err refusal → Walk walked → block ≡ zeros → Fetched g h image blocks n root store tree (Err (reason refusal)) block passed store tree'
  fetched_none refusal block came walk zero = record { walked = Err (reason refusal); passed = passed; walk = subst Walk came walk; fetch = (refl, zero, refl, refl) }

  -- it passed, and then the data block was looked for
  pub fetched_then : (expected : List ℕ) (answer : Result Unit Reason) (block left : List ℕ) (store' : S) → walked ≡ Ok expected → Walk walked → FetchedBlock g image n expected passed store answer block left store'
      → Fetched g h image blocks n root store tree answer block left store' tree'
  fetched_then expected answer block left store' came walk fetch = record { walked = Ok expected; passed = passed; walk = subst Walk came walk; fetch = fetch }
