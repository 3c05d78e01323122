use Rattle.std.proofs.Common.{◌*◌, ◌%◌, ◌∷◌, ◌++◌, ◌^◌, replicate, refl, ap, ◌∙◌, arith}
use Rattle.std.specs.Int.{w64, to_be_bytes}
use Rattle.digest.specs.Sha256.{padding}
use Rattle.digest.proofs.Padding.{last_bytes}
use Rattle.digest.proofs.sha256.pad.Goals as goal

pub returns : goal.returns
unfolding padding
returns c =
    let rest = c.args.rest.now in
    rw (c.copy_from_slice.ensures.after, c.copy_from_slice-2.ensures.after ∙ c.to_be_bytes.ensures)
    (last_bytes rest _ c.args.end 128 (omega (arith, c.requires.rest, c.requires.end)) (omega (arith, c.requires.rest, c.requires.end)) refl
    ∙ ap (λ zeros. rest ++ 128 ∷ (replicate zeros 0 ++ to_be_bytes w64 (c.args.len * 8 % 2 ^ 64))) (omega (arith, c.requires.rest, c.requires.end)))
