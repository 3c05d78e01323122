use Rattle.std.proofs.Common.{rules, ◌≡◌, ◌≢◌, suc, ◌-◌, ◌≤◌, length, vec_items, ap, ◌∙◌, sym, ⊎_elim, arith}
use Rattle.geometry.specs.Geometry.{levels}
use Rattle.geometry.proofs.Numbers.{levels_most}
use Rattle.volume.specs.Extract.{descend, extract}
use Rattle.volume.proofs.Heights.{on_height}
use Rattle.volume.proofs.Shown.{extract_is, goes_on, none_long, none_past, stops}
use Rattle.volume.proofs.extract.extract.Given.{Over}
use Rattle.volume.proofs.extract.extract.Goals as goal
use Rattle.volume.proofs.extract.extract.Goals.{After-len, Else-ne, In-loop-height}

size : (g : Over) (c : After-len g) → c.len.result ≡ length (vec_items c.args.contents.now.blocks)
size g c = c.len.ensures ∙ c.args.contents.now.blocks.ok.0

pub returns-then-number-len-clause-exactly : goal.returns-then-number-len-clause-exactly
returns-then-number-len-clause-exactly g c =
    let items = vec_items c.args.contents.now.blocks in
    let long = size g (goal.at.returns-then-number-len-clause-exactly g c).After-len in
    ⊎_elim (λ past. sym (none_past (g.H.Hash.image c.args.hash.now) items c.args.number c.args.record_area.now (omega arith)))
    (λ other. sym (none_long (g.H.Hash.image c.args.hash.now) items c.args.number c.args.record_area.now other.1)) c.then-number-len.either

pub loop-height-init : goal.loop-height-init
loop-height-init g c =
    let items = vec_items c.args.contents.now.blocks in
    let long = size g (goal.at.loop-height-init g c).After-len in
    let all : levels (length items) ≡ c.levels-height.result = sym (c.levels-height.ensures ∙ ap levels (c.geometry.ensures ∙ c.args.contents.now.blocks.ok.0)) in (
      omega arith,
      extract_is (g.H.Hash.image c.args.hash.now) items c.args.number c.args.record_area.now (omega arith) c.if-record_area-ne2048.false
          ∙ ap (λ l. descend (g.H.Hash.image c.args.hash.now) items c.args.number c.args.record_area.now (suc l)) all,
    )

-- a tree has three levels at most
low : (g : Over) (c : In-loop-height g) → c.loop-height.height ≤ 3
low g c = omega (arith, c.loop-height.invariant.0, c.args.contents.now.least, c.args.contents.now.most, c.args.contents.now.blocks.ok.0, levels_most (length (vec_items c.args.contents.now.blocks)))

pub overflow_mul-height : goal.overflow_mul-height
overflow_mul-height g c = omega (arith, low g c)

pub overflow_shr-number : goal.overflow_shr-number
overflow_shr-number g c = omega (arith, low g c)

pub true_block-truth-requires-clause-low : goal.true_block-truth-requires-clause-low
true_block-truth-requires-clause-low g c = low g c

pub true_block-truth-requires-clause-inside : goal.true_block-truth-requires-clause-inside
true_block-truth-requires-clause-inside g c =
    let long = size g (goal.at.true_block-truth-requires-clause-inside g c).After-len in
    on_height (g.H.Hash.image c.args.hash.now) (vec_items c.args.contents.now.blocks) c.args.number (omega arith) c.loop-height.height

pub recorded_block-recorded-requires : goal.recorded_block-recorded-requires
recorded_block-recorded-requires g c = omega (arith, low g (goal.at.recorded_block-recorded-requires g c).In-loop-height)

pub returns-then-ne-clause-exactly : goal.returns-then-ne-clause-exactly
returns-then-ne-clause-exactly g c =
    let long = size g (goal.at.returns-then-ne-clause-exactly g c).After-len in
    let other : c.true_block-truth.result ≢ c.recorded_block-recorded.result = search rules in
    c.collision.ensures
    ∙ stops (g.H.Hash.image c.args.hash.now) (vec_items c.args.contents.now.blocks) c.args.number c.args.record_area.now (omega arith) c.if-record_area-ne2048.false c.loop-height.height
    c.true_block-truth.result c.recorded_block-recorded.result c.true_block-truth.ensures c.recorded_block-recorded.ensures other c.loop-height.invariant.1

-- with this part a true one too, the parts below it are left
passed : (g : Over) (c : Else-ne g) → extract (g.H.Hash.image c.args.hash.now) (vec_items c.args.contents.now.blocks) c.args.number c.args.record_area.now
    ≡ descend (g.H.Hash.image c.args.hash.now) (vec_items c.args.contents.now.blocks) c.args.number c.args.record_area.now c.loop-height.height
passed g c =
    let long = c.len.ensures ∙ c.args.contents.now.blocks.ok.0 in
    let equal : c.true_block-truth.result ≡ c.recorded_block-recorded.result = search rules in
    goes_on (g.H.Hash.image c.args.hash.now) (vec_items c.args.contents.now.blocks) c.args.number c.args.record_area.now (omega arith) c.if-record_area-ne2048.false c.loop-height.height
    c.true_block-truth.result c.recorded_block-recorded.result c.true_block-truth.ensures c.recorded_block-recorded.ensures equal c.loop-height.invariant.1

pub loop-height-preserved : goal.loop-height-preserved
loop-height-preserved g c =
    let next : c.loop-height.height ≡ suc (c.loop-height.height - 1) = omega arith in (
      omega (arith, c.loop-height.invariant.0),
      passed g (goal.at.loop-height-preserved g c).Else-ne
          ∙ ap (descend (g.H.Hash.image c.args.hash.now) (vec_items c.args.contents.now.blocks) c.args.number c.args.record_area.now) next,
    )

pub returns-else-ne-clause-exactly : goal.returns-else-ne-clause-exactly
returns-else-ne-clause-exactly g c =
    let none : c.loop-height.height ≡ 0 = omega arith in
    sym (
    passed g (goal.at.returns-else-ne-clause-exactly g c).Else-ne
    ∙ ap (descend (g.H.Hash.image c.args.hash.now) (vec_items c.args.contents.now.blocks) c.args.number c.args.record_area.now) none)
