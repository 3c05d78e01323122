use Rattle.std.proofs.Common.{[], get_or, None, Some, sym, ◌∙◌}
use Rattle.std.proofs.lemmas.List.{append-nil}
use Rattle.label.specs.Report.{Says}
use Rattle.label.proofs.SimLines.{lines_more}
use Rattle.label.proofs.report.Report.sims.Goals as goal
use Rattle.label.proofs.report.Report.sims.Goals.{in-Some+in_ok-sim, in_default}

pub loop-k-preserved : goal.loop-k-preserved
loop-k-preserved c =
    let more = lines_more c.args.blocks.now c.loop-k.k c.args.self.now c.loop-k.self in
    let below = c.loop-k-test.true in
    elim c.match-decode.branch [
      | in-Some+in_ok-sim w ↦
          let says : Says (get_or c.args.blocks.now c.loop-k.k []) (Some w.in-Some.sim) = record { encodes = w.in-Some.ensures.encodes; finds = w.in-Some.ensures.finds } in
          more c.match-decode.self (Some w.in-Some.sim) below says c.loop-k.invariant (w.self-is ∙ w.in_ok-sim.ensures)
      | in_default w ↦
          let says : Says (get_or c.args.blocks.now c.loop-k.k []) None = record { encodes = tt; finds = w.in_default.ensures.finds } in
          more c.match-decode.self None below says c.loop-k.invariant (w.self-is ∙ sym (append-nil c.loop-k.self))
    ]
