use Rattle.std.proofs.Common.{◌-◌, take, drop, length, sym, ◌∙◌, rules, tests}
use Rattle.std.proofs.lemmas.Iterator.{YieldsList-from_slice}
use Rattle.std.proofs.lemmas.Iterator.Consumers.{count_from_yields_List}
use Rattle.std.proofs.lemmas.Iterator.Search.{position_from_yields_List, YieldsList-from_take_while}
use Rattle.std.proofs.lemmas.List.{take_rest}
use Rattle.subscriber.proofs.Words.{solid, words_none, words_some}
use Rattle.subscriber.proofs.text.first_word.Goals as goal

pub returns-in_err-start : goal.returns-in_err-start
returns-in_err-start c =
    let at = position_from_yields_List solid _ _ c.position.result c.position.ensures.ran (YieldsList-from_slice c.args.line.now cc) (λ x b q k. search (rules, tests)) in
    let none = words_none c.args.line.now (sym c.in_err-start.was ∙ at) in
    search (rules, none)

pub returns : goal.returns
returns c =
    let text = c.args.line.now in
    let start = c.in_ok-start.start in
    let line = take (length text - start) (drop start text) in
    let at = position_from_yields_List solid _ _ c.position.result c.position.ensures.ran (YieldsList-from_slice text cc) (λ x b q k. search (rules, tests)) in
    let end = count_from_yields_List c.take_while.result c.count-end.result c.count-end.ensures.ran (YieldsList-from_take_while _ solid (YieldsList-from_slice line cc) c.take_while.ensures.closure c.take_while.ensures.done (λ x b q k. search (rules, tests))) in
    let parts = c.split_at.ensures in
    words_some text line _ _ start c.count-end.result (sym c.in_ok-start.was ∙ at) (take_rest text start) end parts.front parts.back
