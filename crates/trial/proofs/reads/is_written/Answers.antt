use Rattle.std.proofs.Common.{refl, Some, sym, ap, ◌∙◌}
use Rattle.std.proofs.lemmas.Option.{slice_get_read}
use Rattle.volume.proofs.Searches.{alike_are_same}
use Rattle.trial.proofs.reads.is_written.Goals as goal

pub returns : goal.returns
returns c = λ yes.
    let block = c.in-Some.block.now in
    let same = alike_are_same c.args.area.now c.args.area.now c.as_slice-block.result.now c.eq.result refl c.eq.ensures yes in
    let found = slice_get_read c.args.written.now _ c.args.number block refl c.in-Some.ensures.lookup.3.0 c.in-Some.ensures.lookup.1 in
    found ∙ ap Some (sym (same ∙ c.as_slice-block.ensures))
