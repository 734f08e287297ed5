use Rattle.std.proofs.Common.{◌≡◌, ◌++◌, take}
use Rattle.fx_net.specs.Opening.{aggregation_stores}
use Rattle.fx_net.proofs.opening.push_aggregations.Given as goal

abbrev pub invariant-loop-aggregation : goal.invariant-loop-aggregation
invariant-loop-aggregation l = l.stores.items ≡ l.initial.stores.items
    ++ aggregation_stores (take l._aggregation-index l.aggregations)
