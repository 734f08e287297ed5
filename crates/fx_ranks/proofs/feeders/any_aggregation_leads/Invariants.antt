use Rattle.std.proofs.Common.{◌≡◌, false, slice_get, take}
use Rattle.std.specs.List.{list_any}
use Rattle.fx_tables.specs.Network.{exporters_of}
use Rattle.fx_ranks.specs.Feeding.{lead_to}
use Rattle.fx_ranks.proofs.feeders.any_aggregation_leads.Given as goal

-- none of the aggregations so far leads to the process
abbrev pub invariant-loop-aggregation : goal.invariant-loop-aggregation
invariant-loop-aggregation l = list_any
    (λ a. lead_to l.linked l.process (exporters_of l.linked (slice_get l.linked.holders a.holder)))
    (take l.aggregation-index l.aggregations) ≡ false
