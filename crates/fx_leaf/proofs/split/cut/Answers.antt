use Rattle.fx_leaf.proofs.PathSplits.{exactly_cut, cut_exactly, cut_inside, cut_bound}
use Rattle.fx_leaf.proofs.split.cut.Goals as goal

pub returns-clause-exact : goal.returns-clause-exact
returns-clause-exact c =
    exactly_cut c.args.tables.now.net c.args.path.now c.args.region.now c.requires.tables.network c.bounds_hold.ensures
    c.err.result c.path_verdict.result c.err.ensures.value c.path_verdict.ensures.ok c.path_verdict.ensures.err

pub returns-clause-cuts : goal.returns-clause-cuts
returns-clause-cuts c =
    cut_exactly c.args.tables.now.net c.args.path.now c.args.region.now c.requires.tables.network c.bounds_hold.ensures
    c.err.result c.path_verdict.result c.err.ensures.value c.path_verdict.ensures.ok c.path_verdict.ensures.err

pub returns-clause-inside : goal.returns-clause-inside
returns-clause-inside c =
    cut_inside c.args.tables.now.net c.args.path.now c.args.region.now c.requires.tables.network c.bounds_hold.ensures
    c.err.result c.path_verdict.result c.err.ensures.value c.path_verdict.ensures.ok c.path_verdict.ensures.err

pub returns-clause-bound : goal.returns-clause-bound
returns-clause-bound c =
    cut_bound c.args.tables.now.net c.args.path.now c.args.region.now c.requires.tables.network c.bounds_hold.ensures
    c.err.result c.path_verdict.result c.err.ensures.value c.path_verdict.ensures.ok c.path_verdict.ensures.err
