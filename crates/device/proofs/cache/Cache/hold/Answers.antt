use Rattle.std.proofs.Common.{rules}
use Rattle.device.specs.declared.cache.Cache.{Cache}
use Rattle.device.specs.Cache.{CacheWrite}
use Rattle.device.specs.CacheLaws.{cache_written}
use Rattle.device.proofs.cache.Cache.hold.Goals as goal

pub returns-in-Held-clause-cells : goal.returns-in-Held-clause-cells
returns-in-Held-clause-cells g c =
    let t : Cache g.row.D.Denot = record { lines = c.rewrite.new.self; below = c.args.self.now.below } in
    let step : CacheWrite g.D.Source g.D.Device c.args.self.now c.args.number c.args.block.now t = search rules in
    cache_written g.D.Source g.D.Device g.met.D.Device.keeps_writes c.args.self.now t c.args.number c.args.block.now c.requires step

pub returns-in-Empty-clause-cells : goal.returns-in-Empty-clause-cells
returns-in-Empty-clause-cells g c =
    let t : Cache g.row.D.Denot = record { lines = c.fill.new.self; below = c.args.self.now.below } in
    let step : CacheWrite g.D.Source g.D.Device c.args.self.now c.args.number c.args.block.now t = search rules in
    cache_written g.D.Source g.D.Device g.met.D.Device.keeps_writes c.args.self.now t c.args.number c.args.block.now c.requires step

pub returns-in-Least-clause-cells : goal.returns-in-Least-clause-cells
returns-in-Least-clause-cells g c =
    let step : CacheWrite g.D.Source g.D.Device c.args.self.now c.args.number c.args.block.now c.evict.new.self = search rules in
    cache_written g.D.Source g.D.Device g.met.D.Device.keeps_writes c.args.self.now c.evict.new.self c.args.number c.args.block.now c.requires step
