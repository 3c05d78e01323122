use Rattle.std.proofs.Common.{◌++◌, ap, ◌∙◌}
use Rattle.std.specs.Prelude.{string_bytes}
use Rattle.trial.specs.Drill.{counts_line}
use Rattle.trial.proofs.Runs.{text_is}
use Rattle.trial.proofs.drilling.add_tally.Goals as goal

pub returns : goal.returns
returns c = λ written answered tallied.
    let headed = string_bytes c.add_heading.new.report in
    let counted = c.in_ok-writeln.ensures.bytes ∙ ap (λ n. headed ++ counts_line c.args.tally.now.right n) (c.len-refused.ensures ∙ c.args.tally.now.refused.ok.0) in
    text_is c.args.run written answered c.args.tally.now _ headed _ _ tallied c.in_ok-add_heading.ensures counted c.in_ok-add_refused.ensures
