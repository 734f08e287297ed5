use Rattle.fx_conform.proofs.LeastLeaves.{least_leaves, leasts_leave}
use Rattle.fx_conform.proofs.EmptiedHolders.{emptied_holds_nothing, emptying_is_leaving}
use Rattle.fx_conform.proofs.stores.holders_are_emptied.Goals as goal

pub returns-clause-least : goal.returns-clause-least
returns-clause-least c = least_leaves

pub returns-clause-leasts : goal.returns-clause-leasts
returns-clause-leasts c = leasts_leave

pub returns-clause-nothing : goal.returns-clause-nothing
returns-clause-nothing c = emptied_holds_nothing

pub returns-clause-emptying : goal.returns-clause-emptying
returns-clause-emptying c = emptying_is_leaving
