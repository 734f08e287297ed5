use Rattle.fx_sums.proofs.SumsOfParts.{parts_alike, exchanged}
use Rattle.fx_sums.proofs.InAnyOrder.{in_any_order}
use Rattle.fx_sums.proofs.laws.sums_of_parts.Goals as goal

pub returns-clause-together : goal.returns-clause-together
returns-clause-together c = parts_alike

pub returns-clause-exchanged : goal.returns-clause-exchanged
returns-clause-exchanged c = exchanged

pub returns-clause-in_any_order : goal.returns-clause-in_any_order
returns-clause-in_any_order c = in_any_order
