use Rattle.fx_conform.proofs.CanBeSent.{met_can_be_sent, aggregated_can_be_sent, leavings_can_be_sent, taken_can_be_sent}
use Rattle.fx_conform.proofs.links.held_can_be_sent.Goals as goal

pub returns-clause-met : goal.returns-clause-met
returns-clause-met c = met_can_be_sent

pub returns-clause-aggregated : goal.returns-clause-aggregated
returns-clause-aggregated c = aggregated_can_be_sent

pub returns-clause-leaving : goal.returns-clause-leaving
returns-clause-leaving c = leavings_can_be_sent

pub returns-clause-taken : goal.returns-clause-taken
returns-clause-taken c = taken_can_be_sent
