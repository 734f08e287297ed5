use Rattle.std.proofs.Common.{List, map, subst}
use Rattle.fx_tables.specs.Network.{AggregationEntry}
use Rattle.fx_net.specs.Doings.{EmptiesAll}
use Rattle.fx_net.proofs.contents.Contents.finish_process.Goals as goal

pub returns-clause-ok : goal.returns-clause-ok
returns-clause-ok g c = (
  g.L.Links.put_on c.carry_all_into.new.links,
  c.carry_all_into.new.self,
  c.in_ok-carry_all_into.ensures.ok,
  subst (λ (xs : List AggregationEntry). EmptiesAll c.args.net.now (map (λ (a : AggregationEntry). a.holder) xs)
      (g.L.Links.put_on c.carry_all_into.new.links) c.carry_all_into.new.self
      (g.L.Links.put_on c.empty_aggregations.new.links) c.empty_aggregations.new.self)
      c.aggregations_of.ensures c.in_ok-empty_aggregations.ensures.ok,
)
