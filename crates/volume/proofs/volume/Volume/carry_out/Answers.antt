use Rattle.std.proofs.Common.{arith}
use Rattle.volume.proofs.Entries.{all_made, none_yet, turn_more}
use Rattle.volume.proofs.Outcomes.{lawful_of}
use Rattle.volume.specs.Story.{state}
use Rattle.volume.specs.View.{base}
use Rattle.volume.proofs.volume.Volume.carry_out.Goals as goal

pub loop-entry-init : goal.loop-entry-init
loop-entry-init g c =
    none_yet (base g.D.Source g.T.Source g.D.Device g.T.Device g.H.Hash) (lawful_of g.met.D.Source.keeps g.met.T.Source.keeps g.met.D.Device.keeps_writes g.met.T.Device.keeps_writes (λ key block. (g.met.H.Hash.cell key block).long))
    (state c.args.self.now c.args.register.now) c.args.slips.now c.args.entries.now

pub loop-entry-preserved : goal.loop-entry-preserved
loop-entry-preserved g c =
    let a = c.args in
    let at = c.loop-entry in
    let to = c.step in
    turn_more (base g.D.Source g.T.Source g.D.Device g.T.Device g.H.Hash) (lawful_of g.met.D.Source.keeps g.met.T.Source.keeps g.met.D.Device.keeps_writes g.met.T.Device.keeps_writes (λ key block. (g.met.H.Hash.cell key block).long))
    (state a.self.now a.register.now) (state at.self at.register) (state to.new.self to.new.register) a.slips.now at.slips to.new.slips a.entries.now at.entries at.entry-index c.entry-item.result to.new.entry
    at.invariant c.loop-entry-test.true to.ensures

pub returns-clause-replayed : goal.returns-clause-replayed
returns-clause-replayed g c =
    let a = c.args in
    let at = c.loop-entry in
    all_made (base g.D.Source g.T.Source g.D.Device g.T.Device g.H.Hash) (lawful_of g.met.D.Source.keeps g.met.T.Source.keeps g.met.D.Device.keeps_writes g.met.T.Device.keeps_writes (λ key block. (g.met.H.Hash.cell key block).long))
    (state a.self.now a.register.now) (state at.self at.register) a.slips.now at.slips a.entries.now at.entries at.entry-index at.invariant (omega (arith, c.loop-entry-test.false, at.auto.entry-index-end))

pub returns-clause-balance : goal.returns-clause-balance
returns-clause-balance g c = c.loop-entry.invariant.balance
