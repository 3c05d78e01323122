use Rattle.std.proofs.Common.{sym, ap, ◌∙◌}
use Rattle.std.proofs.lemmas.Bool.Decides.{Decides-eqb}
use Rattle.std.proofs.lemmas.Slice.Eq.{slice_eq-Decides}
use Rattle.digest.specs.SipHash.{bytes}
use Rattle.digest.proofs.Words.{eight_bytes}
use Rattle.vectors.proofs.suite.Suite.agrees.Goals as goal

pub returns-in-SipHash24 : goal.returns-in-SipHash24
returns-in-SipHash24 c =
    let told = slice_eq-Decides Decides-eqb c.args.hash.now c.as_slice.result.now _ c.eq.ensures in
    let right = c.as_slice.ensures ∙ c.to_le_bytes.ensures ∙ eight_bytes c.siphash_2_4.result ∙ ap (bytes 8) c.siphash_2_4.ensures in
    rw c.in-SipHash24.is (λ t. told.0 t ∙ right, λ e. told.1 (e ∙ sym right))
