use Rattle.std.proofs.Common.{◌≡◌, ◌≤◌, length, arith, ◌∙◌}
use Rattle.trial.proofs.Runs.{sims_in_front, under_sheet}
use Rattle.trial.proofs.drilling.drill_under.Goals as goal

pub returns : goal.returns
returns g c =
    let s = c.args.sheet.now in
    let ran = c.in_ok-text.ensures in
    let many : c.len.result ≡ length s.sims.items = c.len.ensures ∙ s.sims.ok.0 in
    let few : length s.sims.items ≤ s.blocks.value = omega (arith, s.few, s.sims.ok.0) in
    let front = sims_in_front s.sims.items s.blocks.value (c.len.result) c.deref.result.now many (c.deref.ensures.value ∙ c.in_ok-contents.ensures) in
    under_sheet g.H.Hash c.args.hash s _ _ ran.0 _ few front c.in_ok-contents.ensures ran.1 ran.2
