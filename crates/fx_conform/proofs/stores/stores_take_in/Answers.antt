use Rattle.fx_conform.proofs.ImmediateCaches.{met_have_keys, aggregated_have_keys, taking_in}
use Rattle.fx_conform.proofs.Takers.{takers_join}
use Rattle.fx_conform.proofs.stores.stores_take_in.Goals as goal

pub returns-clause-met : goal.returns-clause-met
returns-clause-met c = met_have_keys

pub returns-clause-aggregated : goal.returns-clause-aggregated
returns-clause-aggregated c = aggregated_have_keys

pub returns-clause-taken : goal.returns-clause-taken
returns-clause-taken c = taking_in

pub returns-clause-takers : goal.returns-clause-takers
returns-clause-takers c = takers_join
