use Rattle.std.proofs.Common.{◌≡◌, ◌∙◌, ℕ, List, length, map, take, vec_items, ap, subst, arith}
use Rattle.std.proofs.lemmas.Grind.{common_steps}
use Rattle.label.specs.Label.{volume_of}
use Rattle.sim.specs.Block.{sim_block}
use Rattle.volume.specs.View.{base}
use Rattle.trial.specs.Good.{TakenThrough}
use Rattle.trial.specs.Trial.{box_device, box_source}
use Rattle.trial.proofs.GoodCards.{sims_first}
use Rattle.trial.proofs.Loads.{came_back, loaded_if, of_sheet_if}
use Rattle.trial.proofs.loading.load_under.Goals as goal
use Rattle.trial.proofs.loading.load_under.Given.{Over}

-- what came back, told by the sheet
taken : (g : Over) (c : goal.After-drop-contents-2 g) → TakenThrough (base box_source box_source box_device box_device g.H.Hash) c.args.sheet.now.tray.value c.args.hash
    (map sim_block (vec_items c.args.sheet.now.sims)) c.args.sheet.now.blocks.value c.in_ok-back.back.blocks.items c.in_ok-back.back.register
taken g c =
    let s = c.args.sheet.now in
    let contents : c.deref.result.now ≡ volume_of (vec_items s.sims) s.blocks.value = grind (arith, common_steps) in
    let count : c.len.result ≡ length (vec_items s.sims) = grind (arith, common_steps) in
    let blocks : c.geometry-geometry.result.blocks ≡ s.blocks.value = grind (arith, common_steps) in
    let sims : take c.len.result c.deref.result.now ≡ map sim_block (vec_items s.sims) =
    ap (take c.len.result) contents ∙ sims_first (vec_items s.sims) s.blocks.value c.len.result count in
    let P : List (List ℕ) × ℕ → Type 0 =
    λ p. TakenThrough (base box_source box_source box_device box_device g.H.Hash) s.tray.value c.args.hash p.0 p.1 c.in_ok-back.back.blocks.items c.in_ok-back.back.register in
    subst P (λ i. (sims i, blocks i)) c.in_ok-back.ensures

pub returns-clause-loaded : goal.returns-clause-loaded
returns-clause-loaded g c =
    loaded_if g.H.Hash c.args.hash c.args.sheet.now c.in_ok-back.back.blocks.items c.in_ok-back.back.register (taken g c) c.report.result c.report.ensures.prints

pub returns-clause-of_sheet : goal.returns-clause-of_sheet
returns-clause-of_sheet g c =
    let t = taken g c in
    of_sheet_if g.H.Hash c.args.hash c.args.sheet.now c.in_ok-back.back.blocks.items c.in_ok-back.back.register t c.report.result
    (c.report.ensures.of_sheet (came_back g.H.Hash c.args.hash c.args.sheet.now c.in_ok-back.back.blocks.items c.in_ok-back.back.register t))
