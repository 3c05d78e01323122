use Rattle.std.proofs.Common.{Some, refl, ap, ◌∙◌}
use Rattle.trial.specs.Drill.{listed}
use Rattle.trial.proofs.Runs.{listed_is, lists_is}
use Rattle.volume.specs.Story.{state}
use Rattle.trial.proofs.drilling.play_on.Goals as goal

pub returns : goal.returns
returns g c =
    let first = Some c.args.run.first in
    let second = c.args.run.second in
    let last = c.last_tree_block-last.result in
    record {
      data_1 = c.new-data_1.result;
      data_2 = c.new-data_2.result;
      tree_1 = c.new-tree_1.result;
      tree_2 = c.new-tree_2.result;
      bad_data_1 = lists_is _ _ _ c.new-data_1.ensures.made ∙ listed_is 0 first c.listed-data_1.result _ c.listed-data_1.ensures c.as_slice.ensures;
      bad_data_2 = lists_is _ _ _ c.new-data_2.ensures.made ∙ listed_is 0 second c.listed-data_2.result _ c.listed-data_2.ensures c.as_slice-2.ensures;
      bad_tree_1 =
          lists_is _ _ _ c.new-tree_1.ensures.made ∙ listed_is last first c.listed-tree_1.result _ c.listed-tree_1.ensures c.as_slice-3.ensures ∙ ap (λ n. listed n first) c.last_tree_block-last.ensures;
      bad_tree_2 =
          lists_is _ _ _ c.new-tree_2.ensures.made ∙ listed_is last second c.listed-tree_2.result _ c.listed-tree_2.ensures c.as_slice-4.ensures
          ∙ ap (λ n. listed n second) c.last_tree_block-last.ensures;
      volume = c.volume_over-volume.result;
      made = c.volume_over-volume.ensures;
      list = c.args.list.now;
      asks = refl;
      after = state c.play.new.volume c.play.new.register;
      carried_out = c.play.ensures;
      register = refl;
    }
