use Rattle.std.proofs.Common.{sym, ◌∙◌}
use Rattle.trial.proofs.Runs.{still_none}
use Rattle.trial.proofs.drilling.run_through.Goals as goal
use Rattle.trial.proofs.drilling.run_through.Goals.{then-is_none+in_ok-all_right, else-is_none}

pub returns : goal.returns
returns g c =
    let read = c.in_ok-tally.ensures in (
      read.0,
      record {
        formatted = c.in_ok-register.register;
        format = c.in_ok-register.ensures;
        kept = c.write_cards.new.register;
        writes = c.in_ok-write_cards.ensures;
        end = c.read_cards.new.register;
        reads = read.1;
        all_right = read.2.all_right;
        one_bad = λ none. elim c.if-is_none.branch [
          | then-is_none+in_ok-all_right w ↦ sym read.2.refused ∙ w.in_ok-all_right.ensures
          | else-is_none w ↦ absurd (still_none c.args.run.second c.is_none.result c.is_none.ensures w.if-is_none.false none)
        ];
      },
      read.2,
    )
