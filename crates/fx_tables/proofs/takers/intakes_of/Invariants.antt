use Rattle.std.proofs.Common.{◌≡◌, take}
use Rattle.fx_tables.specs.Takers.{intakes}
use Rattle.fx_tables.proofs.takers.intakes_of.Given as goal

abbrev pub invariant-loop-aggregation : goal.invariant-loop-aggregation
invariant-loop-aggregation l = l.holdings.items ≡ intakes l.holders l.key (take l.aggregation-index l.aggregations)
