use Rattle.std.proofs.Common.{ap, sym, ◌∙◌}
use Rattle.volume.specs.Refusals.{reason, told}
use Rattle.volume.specs.Slips.{slip_with}
use Rattle.volume.specs.View.{base}
use Rattle.volume.proofs.Outcomes.{Lawful}
use Rattle.volume.proofs.Results.{ok_not_err}
use Rattle.bench.proofs.Lending.{formats, opens}
use Rattle.bench.proofs.Outs.{format_number}
use Rattle.bench.proofs.stranger.stranger.Goals as goal

pub unreachable-requires : goal.unreachable-requires
unreachable-requires g c =
    let b = base g.D.Source g.T.Source g.D.Device g.T.Device g.H.Hash in
    let lawful : Lawful b =
    record {
      store = record { reads = g.met.D.Source.keeps; writes = g.met.D.Device.keeps_writes };
      tree = record { reads = g.met.T.Source.keeps; writes = g.met.T.Device.keeps_writes };
      wide = λ key block. (g.met.H.Hash.cell key block).long;
    } in
    let good =
    formats b lawful c.args.companion.now c.format.new.self c.blank-register.result c.format.new.register (told c.format.result) c.format.ensures.step c.requires in
    ok_not_err tt (reason c.in_default.field-0) (sym good ∙ ap told c.in_default.is)

pub unreachable-requires-in_default-open : goal.unreachable-requires-in_default-open
unreachable-requires-in_default-open g c =
    let b = base g.D.Source g.T.Source g.D.Device g.T.Device g.H.Hash in
    let lawful : Lawful b =
    record {
      store = record { reads = g.met.D.Source.keeps; writes = g.met.D.Device.keeps_writes };
      tree = record { reads = g.met.T.Source.keeps; writes = g.met.T.Device.keeps_writes };
      wide = λ key block. (g.met.H.Hash.cell key block).long;
    } in
    let opening =
    opens b lawful c.args.companion.now c.format.new.self c.blank-register.result c.format.new.register (told c.format.result) c.format.ensures.step c.requires
    c.open.new.self (told c.open.result) c.open.ensures in
    ok_not_err tt (reason c.in_default-open.field-0) (sym opening.accepted ∙ ap told c.in_default-open.is)

pub returns-clause-slip : goal.returns-clause-slip
returns-clause-slip g c =
    let b = base g.D.Source g.T.Source g.D.Device g.T.Device g.H.Hash in
    let lawful : Lawful b =
    record {
      store = record { reads = g.met.D.Source.keeps; writes = g.met.D.Device.keeps_writes };
      tree = record { reads = g.met.T.Source.keeps; writes = g.met.T.Device.keeps_writes };
      wide = λ key block. (g.met.H.Hash.cell key block).long;
    } in
    let opening =
    opens b lawful c.args.companion.now c.format.new.self c.blank-register.result c.format.new.register (told c.format.result) c.format.ensures.step c.requires
    c.open.new.self (told c.open.result) c.open.ensures in
    let formatted = format_number b c.args.companion.now c.format.new.self c.blank-register.result c.format.new.register (told c.format.result) c.format.ensures.step in
    c.in-Ok-begin.ensures.slip ∙ ap slip_with (ap (λ u. u.number) opening.after.others ∙ formatted)
