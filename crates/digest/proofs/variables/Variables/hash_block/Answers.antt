use Rattle.std.proofs.Common.{◌≡◌, ◌+◌, ◌*◌, ap, subst, ◌∙◌, arith}
use Rattle.digest.specs.Halfway.{Halfway, Left}
use Rattle.digest.specs.Sha256.{add, hash_block}
use Rattle.digest.proofs.variables.Variables.hash_block.Goals as goal

pub loop-i-init : goal.loop-i-init
loop-i-init c =
    let sums = c.first_sums-sums.ensures in
    record {
      first = sums.0;
      second = sums.1;
      third = sums.2;
      fourth = sums.3;
      left = ap (Left 0 64 c.args.self) c.of-window.ensures;
    }

pub loop-i-preserved : goal.loop-i-preserved
loop-i-preserved c =
    let self = c.args.self in
    let block = c.args.block.now in
    let on : 8 * c.loop-i.i + 4 + 4 ≡ 8 * (c.loop-i.i + 1) = omega arith in
    subst (λ t. Halfway self block c.four_on-in-loop-i.new.sums t c.four_on-in-loop-i.result.0 c.four_on-in-loop-i.result.1) on
    (c.four_on-in-loop-i.ensures self block (c.four_on.ensures self block c.loop-i.invariant))

pub returns : goal.returns
unfolding hash_block
returns c =
    let self = c.args.self in
    let block = c.args.block.now in
    let l = c.loop-i in
    let done : 8 * l.i ≡ 48 = omega arith in
    c.add.ensures
    ∙ ap (add self) (c.last_rounds.ensures self block l.window (subst (λ t. Halfway self block l.sums t l.v l.window) done l.invariant))
