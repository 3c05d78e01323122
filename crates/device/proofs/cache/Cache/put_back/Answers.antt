use Rattle.std.proofs.Common.{add-one}
use Rattle.device.specs.Cache.{start, then}
use Rattle.device.proofs.cache.Cache.put_back.Goals as goal

pub loop-at-init : goal.loop-at-init
loop-at-init g c = start

pub loop-at-preserved : goal.loop-at-preserved
loop-at-preserved g c = rw add-one (then c.loop-at.invariant c.put_line_back.ensures)
