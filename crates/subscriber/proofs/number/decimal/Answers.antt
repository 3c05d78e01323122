use Rattle.std.proofs.Common.{arith, rules}
use Rattle.std.proofs.lemmas.Result.{MatchResult-at_ok}
use Rattle.std.proofs.lemmas.Str.{IsUtf8-from_ascii}
use Rattle.std.proofs.lemmas.Str.Parse.{parse_digits}
use Rattle.subscriber.proofs.Numbers.{numerals, digits_ascii, decimal_parts}
use Rattle.subscriber.proofs.number.decimal.Goals as goal

pub unwrap-requires : goal.unwrap-requires
unwrap-requires c =
    let utf8 = IsUtf8-from_ascii c.args.digits.now (digits_ascii c.args.digits.now (decimal_parts c.args.digits.now c.requires).1) in
    search (rules, utf8)

pub returns : goal.returns
returns c =
    let parts = decimal_parts c.args.digits.now c.requires in
    let text = (MatchResult-at_ok _ _ _ c.unwrap.ensures c.from_utf8.ensures.cases).0 in
    let told = parse_digits numerals 64 c.args.digits.now c.parse.result (rw text at c.parse.ensures.value.0) parts.1 in
    grind arith
