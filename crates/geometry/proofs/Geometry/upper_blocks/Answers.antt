use Rattle.std.proofs.Common.{rules, ◌-◌, ◌∙◌, refl, arith}
use Rattle.std.proofs.lemmas.Iterator.{YieldsList-from_range, YieldsList-from_map}
use Rattle.std.proofs.lemmas.Iterator.Consumers.{sum_by_from_yields_List, fits_by_from_yields_list}
use Rattle.std.specs.List.{range_with_len}
use Rattle.geometry.specs.Geometry.{width}
use Rattle.geometry.proofs.Numbers.{above_is, above_most}
use Rattle.geometry.proofs.Geometry.upper_blocks.Goals as goal

-- no `let` here: antt would write each out in the long term that it finds for the closure
pub sum-requires-clause-fits : goal.sum-requires-clause-fits
sum-requires-clause-fits c =
    fits_by_from_yields_list (width c.args.self.now.blocks) (range_with_len c.args.level (c.levels.result - c.args.level)) c.map.result _
    (YieldsList-from_map _ (width c.args.self.now.blocks) (YieldsList-from_range c.args.level c.levels.result (c.levels.result - c.args.level) c.map.ensures.source refl) c.map.ensures.closure (λ x r q k. search rules))
    (omega (arith, above_is c.args.self.now.blocks c.args.level c.levels.result c.levels.ensures (omega arith), above_most c.args.self.now.blocks c.args.level c.args.self.now.least c.args.self.now.most))

pub returns : goal.returns
returns c =
    sum_by_from_yields_List (width c.args.self.now.blocks) (range_with_len c.args.level (c.levels.result - c.args.level)) c.map.result _ c.sum.ensures.ran
    (YieldsList-from_map _ (width c.args.self.now.blocks) (YieldsList-from_range c.args.level c.levels.result (c.levels.result - c.args.level) c.map.ensures.source refl) c.map.ensures.closure (λ x r q k. search rules))
    ∙ above_is c.args.self.now.blocks c.args.level c.levels.result c.levels.ensures (omega arith)
