use Rattle.std.proofs.Common.{◌≡◌, ◌++◌, take, drop, length, map}
use Rattle.fx_plan.specs.Tables.{aggregation_holder, aggregations_from}
use Rattle.fx_plan.proofs.processes.push_aggregations.Given as goal

abbrev pub invariant-loop-aggregation : goal.invariant-loop-aggregation
invariant-loop-aggregation l =
    (l.holders.items ≡ l.initial.holders.items
    ++ map (aggregation_holder l.exporting l.device) (take l.aggregation-index l.aggregations))
    × (l.taken.items ++ aggregations_from (length l.holders.items) (drop l.aggregation-index l.aggregations)
    ≡ aggregations_from (length l.initial.holders.items) l.aggregations)
