use Rattle.device.specs.Cache.{PutBack}
use Rattle.device.proofs.cache.Cache.put_back.Given as goal

abbrev pub invariant-loop-at : goal.invariant-loop-at
invariant-loop-at g l = PutBack g.D.Source g.D.Device l.initial.self.lines.lines l.initial.self.below l.at l.self.lines.lines l.self.below
