use Rattle.fx_leaf.proofs.LeafAnswers.{never_is_answer}
use Rattle.fx_leaf.proofs.path_scratch.PathScratch.never.Goals as goal

pub returns-clause-answer : goal.returns-clause-answer
returns-clause-answer c =
    never_is_answer c.args.tables.now.net c.args.path.now c.args.region.now c.requires.tables.network
    c.bounds_hold.ensures c.path_verdict.result c.never_of.result c.path_verdict.ensures.ok
    c.path_verdict.ensures.err c.never_of.ensures.ok c.never_of.ensures.err
