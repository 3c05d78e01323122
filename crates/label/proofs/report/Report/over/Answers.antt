use Rattle.std.proofs.Common.{◌≡◌, length, take, vec_items, ap, ◌∙◌, arith}
use Rattle.std.proofs.lemmas.Grind.{common_steps}
use Rattle.label.proofs.SimLines.{at_front, of_volume, whole}
use Rattle.label.proofs.report.Report.over.Goals as goal

pub returns-clause-from_blocks : goal.returns-clause-from_blocks
returns-clause-from_blocks c =
    let blocks = c.args.blocks in
    let sims : c.len.result ≡ length (vec_items c.args.sheet.now.sims) = grind (arith, common_steps) in
    let part : c.unwrap_or.result.now ≡ take (length (vec_items c.args.sheet.now.sims)) blocks.now =
    ap (λ s. s.now) c.unwrap_or.ensures ∙ at_front blocks c.get.result c.len.result c.get.ensures.lookup ∙ ap (λ n. take n blocks.now) sims
    in
    whole _ _ _ _ _ _ _ _ _ _ _ _ c.from.result part c.from.ensures c.new-report.ensures c.in_ok-head.ensures c.in_ok-sims.ensures c.in_ok-tree.ensures c.in_ok-label.ensures

pub returns-clause-of_sheet : goal.returns-clause-of_sheet
returns-clause-of_sheet c = of_volume _ _ _ _ _ _ _ (returns-clause-from_blocks c)
