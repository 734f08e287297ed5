use Rattle.fx_leaf.proofs.LeafAnswers.{leaf_is_answer, answer_sound, answer_every, answer_none}
use Rattle.fx_leaf.proofs.leaf.fate.Goals as goal

pub returns-clause-answer : goal.returns-clause-answer
returns-clause-answer c =
    leaf_is_answer c.args.tables.now.net c.args.path.now c.args.region.now c.requires.tables.network
    c.bounds_hold.ensures c.path_verdict.result c.leaf_of.result c.path_verdict.ensures.ok
    c.path_verdict.ensures.err c.leaf_of.ensures.ok c.leaf_of.ensures.err

pub returns-clause-sound : goal.returns-clause-sound
returns-clause-sound c =
    answer_sound c.args.tables.now.net c.args.path.now c.args.region.now c.requires.tables.network c.bounds_hold.ensures
    c.leaf_of.result (leaf_is_answer c.args.tables.now.net c.args.path.now c.args.region.now
    c.requires.tables.network c.bounds_hold.ensures c.path_verdict.result c.leaf_of.result c.path_verdict.ensures.ok
    c.path_verdict.ensures.err c.leaf_of.ensures.ok c.leaf_of.ensures.err)

pub returns-clause-every : goal.returns-clause-every
returns-clause-every c =
    answer_every c.args.tables.now.net c.args.path.now c.args.region.now c.requires.tables.network c.bounds_hold.ensures
    c.leaf_of.result (leaf_is_answer c.args.tables.now.net c.args.path.now c.args.region.now
    c.requires.tables.network c.bounds_hold.ensures c.path_verdict.result c.leaf_of.result c.path_verdict.ensures.ok
    c.path_verdict.ensures.err c.leaf_of.ensures.ok c.leaf_of.ensures.err)

pub returns-clause-none : goal.returns-clause-none
returns-clause-none c =
    answer_none c.args.tables.now.net c.args.path.now c.args.region.now c.requires.tables.network c.bounds_hold.ensures
    c.leaf_of.result (leaf_is_answer c.args.tables.now.net c.args.path.now c.args.region.now
    c.requires.tables.network c.bounds_hold.ensures c.path_verdict.result c.leaf_of.result c.path_verdict.ensures.ok
    c.path_verdict.ensures.err c.leaf_of.ensures.ok c.leaf_of.ensures.err)
