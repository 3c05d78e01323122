use Rattle.std.proofs.Common.{◌≡◌, ◌-◌, suc, Err, rules, arith}
use Rattle.geometry.specs.Geometry.{levels}
use Rattle.volume.proofs.Descents.{all_passed, down, stuck}
use Rattle.volume.proofs.walk.walk.Goals as goal

pub loop-level-preserved : goal.loop-level-preserved
loop-level-preserved g c =
    let a = c.args in
    let at = c.loop-level in
    let to = c.descend in
    let one : at.level ≡ suc (at.level - 1) = omega (arith, c.loop-level-test.true) in (
      down g.S.Source (g.H.Hash.image a.hash.now) a.geometry.blocks a.number (levels a.geometry.blocks) a.root.now a.log.now a.tree.now (at.level - 1) at.expected at.log at.tree to.new.expected to.new.log to.new.tree
          at.level c.known_place-place.result to.result one c.known_place-place.ensures.0 c.in_ok-descend.was at.invariant.0 to.ensures,
      omega (arith, at.invariant.1),
    )

pub returns-in_err-descend : goal.returns-in_err-descend
returns-in_err-descend g c =
    let a = c.args in
    let at = c.loop-level in
    let to = c.descend in
    let one : at.level ≡ suc (at.level - 1) = omega (arith, c.loop-level-test.true) in
    let refusal = c.in_err-descend.field-0.0 in
    let e : c.from_residual.result ≡ Err refusal = search rules in
    rw e (stuck g.S.Source (g.H.Hash.image a.hash.now) a.geometry.blocks a.number (levels a.geometry.blocks) a.root.now a.log.now a.tree.now (at.level - 1) at.expected at.log at.tree to.new.expected to.new.log to.new.tree
    at.level c.known_place-place.result to.result refusal one c.known_place-place.ensures.0 c.in_err-descend.was at.invariant.0 to.ensures)

pub returns : goal.returns
returns g c =
    let a = c.args in
    let at = c.loop-level in
    let none : at.level ≡ 0 = omega (arith, c.loop-level-test.false) in
    all_passed g.S.Source (g.H.Hash.image a.hash.now) a.geometry.blocks a.number (levels a.geometry.blocks) a.root.now a.log.now a.tree.now at.level at.expected at.log at.tree none at.invariant.0
