use Rattle.fx_leaf.proofs.Headline
use Rattle.fx_leaf.proofs.laws.exactly_once.Goals as goal

pub returns-clause-once : goal.returns-clause-once
returns-clause-once c = Headline.exactly_once

pub returns-clause-modulo : goal.returns-clause-modulo
returns-clause-modulo c = Headline.once_modulo
