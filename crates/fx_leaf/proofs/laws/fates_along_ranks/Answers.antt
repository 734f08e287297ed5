use Rattle.fx_leaf.proofs.Ranks.{agrees, only}
use Rattle.fx_leaf.proofs.laws.fates_along_ranks.Goals as goal

pub returns-clause-agree : goal.returns-clause-agree
returns-clause-agree c = agrees

pub returns-clause-no_other : goal.returns-clause-no_other
returns-clause-no_other c net at ranked = only net ranked at
