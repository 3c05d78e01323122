use Rattle.std.proofs.Common.{◌+◌, ap, ◌∙◌, lit<, rules}
use Rattle.std.proofs.lemmas.Str.Pattern.{starts_char}
use Rattle.vectors.specs.First.{first_fault}
use Rattle.vectors.proofs.Turns.{all, skip, count, tested}
use Rattle.vectors.proofs.vector.tally.Goals as goal

pub loop-i-preserved-then-starts_with : goal.loop-i-preserved-then-starts_with
loop-i-preserved-then-starts_with c =
    let step = c.in-Some.ensures.steps in
    let line = c.in-Some.line.now in
    let is = tested line _ (starts_char 35 line _ c.starts_with.ensures.cases (lit< tt) (lit< tt)) ∙ c.if-starts_with.true in
    let next = skip _ _ _ _ c.loop-i.tally c.loop-i.invariant.3 line _ _ step.2 step.0.0.0 step.0.0.2 is in
    (search rules, tt, search rules, next)

pub loop-i-preserved : goal.loop-i-preserved
loop-i-preserved c =
    let step = c.in-Some.ensures.steps in
    let line = c.in-Some.line.now in
    let is = tested line _ (starts_char 35 line _ c.starts_with.ensures.cases (lit< tt) (lit< tt)) ∙ c.if-starts_with.false in
    let now = c.loop-i.tally in
    let problem = c.in_ok-problem_of.field-0 in
    let fault = c.add.ensures.fault ∙ ap (λ i. first_fault now.fault (i + 1) problem) step.1 in
    let next =
    count _ _ _ _ now c.loop-i.invariant.3 line _ _ problem c.add.new.self step.2 step.0.0.0 step.0.0.2 is
    c.in_ok-problem_of.ensures c.add.ensures.total c.add.ensures.agree fault in
    (search rules, tt, search rules, next)

pub returns : goal.returns
returns c = let step = c.in-None.ensures.steps in all _ _ _ _ c.loop-i.tally c.loop-i.invariant.3 step.0.0.0
