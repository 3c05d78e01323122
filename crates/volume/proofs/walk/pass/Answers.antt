use Rattle.std.proofs.Common.{◌-◌, ◌≡◌, arith}
use Rattle.volume.proofs.Searches.{alike_are_same, all_failed, differs, faults, none_yet, passes, unlike_differ}
use Rattle.volume.proofs.walk.pass.Goals.{in-Ok-2, in-Err}
use Rattle.volume.proofs.walk.pass.Goals as goal

pub loop-way-init : goal.loop-way-init
loop-way-init g c = none_yet g.S.Source (g.H.Hash.image c.args.hash.now) c.args.number c.args.expected.now c.ways-way-end.result c.args.source.now

pub loop-way-preserved : goal.loop-way-preserved
loop-way-preserved g c =
    let image = g.H.Hash.image c.args.hash.now in
    let at = c.loop-way in
    elim c.match-read.branch [
      | in-Ok-2 w ↦
          let other = unlike_differ (image c.read.new.area) w.image_of.result c.args.expected.now w.eq.result w.image_of.ensures w.eq.ensures w.if-eq.false in
          rw w.last-is (differs g.S.Source image c.args.number c.args.expected.now c.ways-way-end.result c.args.source.now at.way at.last at.source c.read.new.self c.loop-way-test.true at.invariant
          c.read.new.area w.in-Ok.ensures.step other)
      | in-Err w ↦
          rw w.last-is (faults g.S.Source image c.args.number c.args.expected.now c.ways-way-end.result c.args.source.now at.way at.last at.source c.read.new.self c.loop-way-test.true at.invariant
          w.in-Err.fault w.in-Err.ensures.step)
    ]

pub returns-in-Ok-clause-search : goal.returns-in-Ok-clause-search
returns-in-Ok-clause-search g c =
    let image = g.H.Hash.image c.args.hash.now in
    let at = c.loop-way in
    let same = alike_are_same (image c.read.new.area) c.image_of.result c.args.expected.now c.eq.result c.image_of.ensures c.eq.ensures c.if-eq.true in
    rw (← c.ways-way-end.ensures)
    (passes g.S.Source image c.args.number c.args.expected.now c.ways-way-end.result c.args.source.now at.way at.last at.source c.read.new.self c.loop-way-test.true at.invariant
    c.read.new.area c.in-Ok.ensures.step same c.read.array_long)

pub returns-clause-search : goal.returns-clause-search
returns-clause-search g c =
    let at = c.loop-way in
    let none : c.ways-way-end.result - at.way ≡ 0 = omega arith in
    rw (← c.ways-way-end.ensures)
    (all_failed g.S.Source (g.H.Hash.image c.args.hash.now) c.args.number c.args.expected.now c.ways-way-end.result c.args.source.now at.way at.last at.source none at.invariant)
