use Rattle.std.proofs.Common.{◌<◌, [], length, take, ap, ◌∙◌, arith}
use Rattle.std.proofs.lemmas.List.{append-nil}
use Rattle.trial.specs.Lists.{blocks_read}
use Rattle.trial.proofs.Lists.{back_more, other_adds, read_adds, read_whole, whole_at}
use Rattle.trial.proofs.list.blocks_back.Goals as goal
use Rattle.trial.proofs.list.blocks_back.Goals.{in-Read+in-Some+in_ok-push, in-Read+in_default-as_array, in_default}

pub loop-entry-preserved : goal.loop-entry-preserved
loop-entry-preserved c = λ whole.
    let es = c.args.list.now in
    let i = c.loop-entry.entry-index in
    let e = c.entry-item.result in
    let few : i < length es = omega arith in
    let more = back_more es i e few c.entry-item.is in
    let before = c.loop-entry.invariant whole in
    elim c.match-entry.branch [
      | in-Read+in-Some+in_ok-push w ↦ let adds = read_adds e.call w.in-Read.number e.block.items [] w.in-Read.is in cc (w.in-Some.ensures.cases.same, w.in_ok-push.ensures.items)
      | in-Read+in_default-as_array w ↦
          let long = read_whole e.call w.in-Read.number e.block.items w.in-Read.is (whole_at es i e few c.entry-item.is whole) in
          absurd (w.in_default-as_array.ensures.cases (ap length w.as_slice.ensures.value ∙ long))
      | in_default w ↦ let adds = other_adds e.call e.block.items [] w.in_default.not-Read in let none = append-nil (blocks_read (take i es)) in cc
    ]
