use Rattle.fx_leaf.proofs.LeafAnswers.{never_is_answer, never_sound, never_every, never_none}
use Rattle.fx_leaf.proofs.leaf.never.Goals as goal

pub returns-clause-answer : goal.returns-clause-answer
returns-clause-answer c =
    never_is_answer c.args.tables.now.net c.args.path.now c.args.region.now c.requires.tables.network
    c.bounds_hold.ensures c.path_verdict.result c.never_of.result c.path_verdict.ensures.ok
    c.path_verdict.ensures.err c.never_of.ensures.ok c.never_of.ensures.err

pub returns-clause-sound : goal.returns-clause-sound
returns-clause-sound c =
    never_sound c.args.tables.now.net c.args.path.now c.args.region.now c.requires.tables.network c.bounds_hold.ensures
    c.never_of.result (never_is_answer c.args.tables.now.net c.args.path.now c.args.region.now
    c.requires.tables.network c.bounds_hold.ensures c.path_verdict.result c.never_of.result
    c.path_verdict.ensures.ok c.path_verdict.ensures.err c.never_of.ensures.ok c.never_of.ensures.err)

pub returns-clause-every : goal.returns-clause-every
returns-clause-every c =
    never_every c.args.tables.now.net c.args.path.now c.args.region.now c.requires.tables.network c.bounds_hold.ensures
    c.never_of.result (never_is_answer c.args.tables.now.net c.args.path.now c.args.region.now
    c.requires.tables.network c.bounds_hold.ensures c.path_verdict.result c.never_of.result
    c.path_verdict.ensures.ok c.path_verdict.ensures.err c.never_of.ensures.ok c.never_of.ensures.err)

pub returns-clause-none : goal.returns-clause-none
returns-clause-none c =
    never_none c.args.tables.now.net c.args.path.now c.args.region.now c.requires.tables.network c.bounds_hold.ensures
    c.never_of.result (never_is_answer c.args.tables.now.net c.args.path.now c.args.region.now
    c.requires.tables.network c.bounds_hold.ensures c.path_verdict.result c.never_of.result
    c.path_verdict.ensures.ok c.path_verdict.ensures.err c.never_of.ensures.ok c.never_of.ensures.err)
