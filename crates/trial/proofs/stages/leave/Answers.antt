use Rattle.std.proofs.Common.{sym, ap, ◌∙◌}
use Rattle.trial.proofs.Slips.{taken}
use Rattle.volume.specs.Refusals.{reason}
use Rattle.volume.specs.Slips.{unspent}
use Rattle.volume.specs.View.{base, view}
use Rattle.volume.proofs.Results.{ok_not_err}
use Rattle.trial.proofs.stages.leave.Goals as goal

pub unreachable-requires : goal.unreachable-requires
unreachable-requires g c =
    let v = view (base g.D.Source g.T.Source g.D.Device g.T.Device g.H.Hash) c.args.volume.now in
    let closing = c.leave.ensures.step.goes_on c.requires.mind (taken v c.args.slip c.requires) in
    ok_not_err tt (reason c.in-Err.field-0.refusal) (sym closing.accepted ∙ ap unspent c.in-Err.is)
