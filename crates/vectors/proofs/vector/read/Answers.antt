use Rattle.std.proofs.Common.{vec_items, sym, ap, ◌∙◌}
use Rattle.std.specs.Option.{option_map}
use Rattle.vectors.specs.Hex.{unhex}
use Rattle.vectors.proofs.Cuts.{no_space, no_message, no_hex, says}
use Rattle.vectors.proofs.vector.read.Goals as goal

pub returns-in_default : goal.returns-in_default
returns-in_default c = no_space _ _ c.in_default.ensures.cases

pub returns-in_default-2 : goal.returns-in_default-2
returns-in_default-2 c = no_message _ _ c.in-Some.message c.in-Some.hash c.in-Some.ensures.cases (rw c.in_default-2.is at c.in_ok-message.ensures)

pub returns-in_default-3 : goal.returns-in_default-3
returns-in_default-3 c =
    let hex = ap (option_map vec_items) (sym c.in_default-3.is) ∙ c.in_ok-hash.ensures ∙ ap unhex c.as_bytes.ensures.value in
    no_hex _ _ c.in-Some.message c.in-Some.hash c.in-Some.ensures.cases hex

pub returns : goal.returns
returns c =
    let hex = ap (option_map vec_items) (sym c.in-Some-3.is) ∙ c.in_ok-hash.ensures ∙ ap unhex c.as_bytes.ensures.value in
    let means = rw c.in-Some-2.is at c.in_ok-message.ensures in
    says _ _ c.in-Some.message c.in-Some.hash c.in-Some.ensures.cases _ _ means hex
