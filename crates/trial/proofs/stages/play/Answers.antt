use Rattle.std.proofs.Common.{Ok, refl, sym, ◌∙◌, subst}
use Rattle.trial.proofs.Slips.{left_over, same_slip}
use Rattle.volume.specs.Calls.{LeaveStep}
use Rattle.volume.specs.Slips.{slip_number}
use Rattle.volume.specs.Story.{state}
use Rattle.volume.specs.View.{base, view}
use Rattle.volume.proofs.Results.{none_not_some}
use Rattle.trial.proofs.stages.play.Goals as goal

pub leave-requires : goal.leave-requires
leave-requires g c =
    let over = base g.D.Source g.T.Source g.D.Device g.T.Device g.H.Hash in
    left_over (view over c.args.volume.now) (view over c.replay.new.self) c.in-Some.slip c.replay.new.slips c.in-Some.is c.replay.ensures.balance

-- with a slip left over, nothing is said of the volume
pub returns-in-Some : goal.returns-in-Some
returns-in-Some g c =
    let over = base g.D.Source g.T.Source g.D.Device g.T.Device g.H.Hash in
    record {
      places = c.replay.new.slips;
      between = state c.replay.new.self c.replay.new.register;
      replayed = c.replay.ensures.replayed;
      balance = c.replay.ensures.balance;
      none_left = λ none. absurd (none_not_some c.in-Some.slip (sym none ∙ c.in-Some.is));
      left_over = λ slip here. (subst (λ s. LeaveStep over (c.replay.new.self) (slip_number s) (Ok tt) c.leave.new.volume) (same_slip c.in-Some.slip slip (sym c.in-Some.is ∙ here)) c.leave.ensures, refl);
    }

-- with none left over, the volume is as the calls left it
pub returns-in_default : goal.returns-in_default
returns-in_default g c =
    record {
      places = c.replay.new.slips;
      between = state c.replay.new.self c.replay.new.register;
      replayed = c.replay.ensures.replayed;
      balance = c.replay.ensures.balance;
      none_left = λ none. refl;
      left_over = λ slip here. absurd (c.in_default.not-Some slip here);
    }
