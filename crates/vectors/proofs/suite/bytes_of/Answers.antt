use Rattle.std.proofs.Common.{◌≡◌, length, refl, ◌∙◌, arith}
use Rattle.std.proofs.lemmas.List.{take_at}
use Rattle.vectors.proofs.Hex.{decoded, refused}
use Rattle.vectors.proofs.suite.bytes_of.Goals as goal

pub returns-in-Ok : goal.returns-in-Ok
returns-in-Ok c =
    let long : length c.decode_to_slice.new.out ≡ c.in_ok-bytes.bytes.len = omega (arith, c.decode_to_slice.auto.out, c.as_mut_slice.ensures.len) in
    rw (take_at c.decode_to_slice.new.out _ _ long)
    (decoded c.args.text.now _ (c.as_mut_slice.ensures.len ∙ c.in_ok-bytes.ensures.len) c.decode_to_slice.new.out _ c.in-Ok.field-0 refl c.in-Ok.ensures.value)

pub returns-in-Err : goal.returns-in-Err
returns-in-Err c = refused c.args.text.now _ (c.as_mut_slice.ensures.len ∙ c.in_ok-bytes.ensures.len) c.decode_to_slice.new.out _ c.in-Err.field-0 refl c.in-Err.ensures.value
