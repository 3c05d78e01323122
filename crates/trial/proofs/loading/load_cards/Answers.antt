use Rattle.trial.proofs.GoodCards.{good_data, good_trees}
use Rattle.trial.proofs.loading.load_cards.Goals as goal

pub load_on-requires-clause-store : goal.load_on-requires-clause-store
load_on-requires-clause-store g c =
    let n = c.args.geometry in good_data c.args.cards.now c.regions-data.result n.blocks n.least n.most c.requires.cards c.regions-data.ensures

pub load_on-requires-clause-tree : goal.load_on-requires-clause-tree
load_on-requires-clause-tree g c =
    let n = c.args.geometry in good_trees c.args.cards.now c.regions-data.result n.blocks n.least n.most c.requires.cards c.regions-data.ensures
