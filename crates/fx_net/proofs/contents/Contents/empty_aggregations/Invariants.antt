-- What completes the rest completes the whole.
use Rattle.std.proofs.Common.{◌≡◌, drop, map, false}
use Rattle.fx_tables.specs.Network as network
use Rattle.fx_net.specs.Doings.{Ended, Empties}
use Rattle.fx_net.proofs.OneAfterAnother.{Completes}
use Rattle.fx_net.proofs.contents.Contents.empty_aggregations.Given as goal

abbrev pub invariant-loop-aggregation : goal.invariant-loop-aggregation
invariant-loop-aggregation g l = record {
  done : Completes (λ place. Ended (Empties l.net place))
      (map (λ (a : network.AggregationEntry). a.holder) l.aggregations) (g.L.Links.put_on l.initial.links) l.fn.self
      (map (λ (a : network.AggregationEntry). a.holder) (drop l.aggregation-index l.aggregations))
      (g.L.Links.put_on l.links) l.self;
  going : g.L.Links.failed l.initial.links ≡ false → g.L.Links.failed l.links ≡ false;
}
