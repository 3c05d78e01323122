use Rattle.std.proofs.Common.{rules, ◌≡◌, ◌++◌, ℕ, List, sym, subst, vec_items}
use Rattle.std.specs.Prelude.{string_bytes}
use Rattle.digest.specs.Sha256.{salted_cell}
use Rattle.digest.specs.SipHash.{sip_cell}
use Rattle.label.specs.Label.{image_for, kind_for, sheet_volume}
use Rattle.label.specs.Report.{report_with}
use Rattle.subscriber.specs.declared.tray.HashChoice.{HashChoice}
use Rattle.subscriber.specs.declared.tray.HashChoice.TheVariants as choice
use Rattle.tree.specs.Layout.{root_of}
use Rattle.trial.specs.Trial.{LoadedUnder, Loads, sha256_ghosts, siphash_ghosts, stage_lines}
use Rattle.trial.proofs.load.Goals.{in-Sha256+in_ok-text-in-Sha256, in-SipHash+in_ok-text-in-SipHash}
use Rattle.trial.proofs.load.Goals as goal

pub returns-in_err-sheet : goal.returns-in_err-sheet
returns-in_err-sheet c = search rules

pub returns : goal.returns
returns c =
    let s = c.in_ok-sheet.sheet in
    -- what is printed, under the hash that the sheet names
    let told : HashChoice → List ℕ → Type 0 =
    λ h text. Loads s h text × (text ≡ stage_lines s ++ report_with s.tray.value s.blocks.value (vec_items s.sims) (kind_for h) (root_of (image_for h) (sheet_volume s))) in
    let both : told s.hash (string_bytes c.match-sheet.text) =
    elim c.match-sheet.branch [
      | in-Sha256+in_ok-text-in-Sha256 w ↦
          let text = string_bytes w.in_ok-text-in-Sha256.text in
          let under : LoadedUnder sha256_ghosts (record { salt = w.in-Sha256.salt }) s text =
          subst (λ k. LoadedUnder sha256_ghosts (record { salt = k }) s text) w.new.ensures.salt w.in_ok-text-in-Sha256.ensures.loaded in
          let label =
          subst (λ k. text ≡ stage_lines s ++ report_with s.tray.value s.blocks.value (vec_items s.sims) 1 (root_of (salted_cell k) (sheet_volume s))) w.new.ensures.salt w.in_ok-text-in-Sha256.ensures.of_sheet in
          subst (λ h. told h (string_bytes c.match-sheet.text)) (sym w.in-Sha256.is) (subst (λ t. told (choice.Sha256 w.in-Sha256.salt) (string_bytes t)) (sym w.text-is) (under, label))
      | in-SipHash+in_ok-text-in-SipHash w ↦
          let text = string_bytes w.in_ok-text-in-SipHash.text in
          let under : LoadedUnder siphash_ghosts (record { key = w.in-SipHash.key }) s text =
          subst (λ k. LoadedUnder siphash_ghosts (record { key = k }) s text) w.new-in-SipHash.ensures.key w.in_ok-text-in-SipHash.ensures.loaded in
          let label =
          subst (λ k. text ≡ stage_lines s ++ report_with s.tray.value s.blocks.value (vec_items s.sims) 2 (root_of (sip_cell k) (sheet_volume s))) w.new-in-SipHash.ensures.key w.in_ok-text-in-SipHash.ensures.of_sheet in
          subst (λ h. told h (string_bytes c.match-sheet.text)) (sym w.in-SipHash.is) (subst (λ t. told (choice.SipHash w.in-SipHash.key) (string_bytes t)) (sym w.text-is) (under, label))
    ] in (s, c.in_ok-sheet.ensures.answer, both.0, both.1)
