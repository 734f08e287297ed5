use Rattle.fx_conform.proofs.AllLinks.{links_begin}
use Rattle.fx_conform.proofs.LinkLaws.{still_carries, puts_carry, finishing_rests, octets_arrive, arrived_leaves, none_is_left, nothing_carries, history_reads}
use Rattle.fx_conform.proofs.links.links_are_carried.Goals as goal

pub returns-clause-begins : goal.returns-clause-begins
returns-clause-begins c = links_begin

pub returns-clause-still : goal.returns-clause-still
returns-clause-still c = still_carries

pub returns-clause-puts : goal.returns-clause-puts
returns-clause-puts c = puts_carry

pub returns-clause-finishing : goal.returns-clause-finishing
returns-clause-finishing c = finishing_rests

pub returns-clause-carrying : goal.returns-clause-carrying
returns-clause-carrying c = octets_arrive

pub returns-clause-arriving : goal.returns-clause-arriving
returns-clause-arriving c = arrived_leaves

pub returns-clause-none_left : goal.returns-clause-none_left
returns-clause-none_left c = none_is_left

pub returns-clause-nothing : goal.returns-clause-nothing
returns-clause-nothing c = nothing_carries

pub returns-clause-history : goal.returns-clause-history
returns-clause-history c = history_reads
