use Rattle.std.proofs.Common.{◌≤◌, length, arith}
use Rattle.trial.proofs.GoodCards.{good_data, good_trees}
use Rattle.trial.proofs.drilling.format_cards.Goals as goal

pub format_on-requires-clause-store : goal.format_on-requires-clause-store
format_on-requires-clause-store g c =
    let job = c.args.job.now.contents.now in
    let n = length job.blocks.items in
    let least : 1 ≤ n = omega (arith, job.least, job.blocks.ok.0) in
    let most : n ≤ 4096 = omega (arith, job.most, job.blocks.ok.0) in good_data c.args.cards.now c.regions-data.result n least most c.requires c.regions-data.ensures

pub format_on-requires-clause-tree : goal.format_on-requires-clause-tree
format_on-requires-clause-tree g c =
    let job = c.args.job.now.contents.now in
    let n = length job.blocks.items in
    let least : 1 ≤ n = omega (arith, job.least, job.blocks.ok.0) in
    let most : n ≤ 4096 = omega (arith, job.most, job.blocks.ok.0) in good_trees c.args.cards.now c.regions-data.result n least most c.requires c.regions-data.ensures
