use Rattle.fx_conform.proofs.ClosingNamed.{taking_stays_named, leaving_stays_named}
use Rattle.fx_conform.proofs.ClosingEnd.{closing_empties}
use Rattle.fx_conform.proofs.closing.closing_leaves_nothing.Goals as goal

pub returns-clause-taking : goal.returns-clause-taking
returns-clause-taking c = taking_stays_named

pub returns-clause-leaving : goal.returns-clause-leaving
returns-clause-leaving c = leaving_stays_named

pub returns-clause-closing : goal.returns-clause-closing
returns-clause-closing c = closing_empties
