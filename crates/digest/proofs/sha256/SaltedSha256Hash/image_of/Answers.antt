use Rattle.std.proofs.Common.{◌≡◌, ◌++◌, take, drop, fold, length, refl, ap₂, ◌∙◌, arith, rules}
use Rattle.std.proofs.lemmas.List.{length-drop, take_all}
use Rattle.digest.specs.Sha256.{cut, digest, hash_block, padding}
use Rattle.digest.proofs.Padding.{salt_first, salted}
use Rattle.digest.proofs.sha256.SaltedSha256Hash.image_of.Goals as goal

pub returns : goal.returns
returns c =
    let salt = c.args.self.now.salt in
    let block = c.args.block.now in
    let long : length salt ≡ 16 = search rules in
    let whole : length block ≡ 512 = search rules in
    let all : take 464 (drop 48 block) ≡ drop 48 block = take_all 464 (drop 48 block) (omega (arith, length-drop 48 block)) in
    let first = salt_first salt (take 48 block) _ long refl in
    c.hash_rest.ensures
    ∙ ap₂ (λ h r. digest (fold hash_block h (cut (r ++ padding 528))))
    (c.hash_block-h.ensures ∙ ap₂ hash_block c.initial.ensures (rw (c.copy_from_slice.ensures.after, c.copy_from_slice-2.ensures.after) first))
    all
    ∙ salted salt block long whole
