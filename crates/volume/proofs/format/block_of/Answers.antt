use Rattle.std.proofs.Common.{◌∙◌}
use Rattle.std.proofs.lemmas.List.Elements.{same_from_all_zip}
use Rattle.volume.proofs.Zeros.{put_alike}
use Rattle.volume.proofs.format.block_of.Goals as goal

-- a clone of bytes is those bytes
pub returns : goal.returns
returns c =
    let filled = c.fill.ensures.after (λ y z. same_from_all_zip _ _ _ z.whole (λ a b e. e)) in
    c.copy_from_slice.ensures.after ∙ c.as_flattened.ensures.value
    ∙ put_alike c.args.count c.args.others.now c.args.last.now c.fill.new.self c.requires.0 c.requires.1 filled
