use Rattle.std.proofs.Common.{ℕ, ◌+◌, ◌==◌, length, ◌∙◌, arith, rules, take_all}
use Rattle.std.proofs.lemmas.List.{take_rest, drop_all}
use Rattle.std.proofs.lemmas.List.Sums.{position_or_len_is}
use Rattle.subscriber.proofs.Lines.{lines_first}
use Rattle.subscriber.proofs.text.cut_line.Goals as goal

pub returns-in-Some : goal.returns-in-Some
returns-in-Some c =
    let text = c.args.text.now in
    let found = position_or_len_is (λ (b : ℕ). b == 10) text c.in-Some.end 0 (search rules) (search rules) (search rules) in
    lines_first text c.requires ∙ rw (found, take_rest text (c.in-Some.end + 1))

pub returns-in-None : goal.returns-in-None
returns-in-None c =
    let text = c.args.text.now in
    let none = position_or_len_is (λ (b : ℕ). b == 10) text (length text) 0 (omega arith) (search rules) (search rules) in
    lines_first text c.requires ∙ rw (none, take_all (length text) text (omega arith), drop_all (length text + 1) text (omega arith))
