use Rattle.std.proofs.Common.{Bool, ap, slice_get, sym, ◌∙◌}
use Rattle.std.proofs.lemmas.Bool.{or_from}
use Rattle.std.proofs.lemmas.List.{take_all}
use Rattle.std.proofs.lemmas.List.Folds.{list_any_at, list_any_more}
use Rattle.std.specs.List.{list_any}
use Rattle.fx_tables.specs.Network.{AggregationEntry, exporters_of}
use Rattle.fx_ranks.specs.Feeding.{lead_to}
use Rattle.fx_ranks.proofs.feeders.any_aggregation_leads.Goals as goal

pub returns-then-aggregation_leads : goal.returns-then-aggregation_leads
returns-then-aggregation_leads c =
    let net = c.args.linked.now in
    let leads : AggregationEntry → Bool = λ a. lead_to net c.args.process
    (exporters_of net (slice_get net.holders a.holder)) in
    let a = c.aggregation-item.result in
    sym (list_any_at leads c.args.aggregations.now c.loop-aggregation.aggregation-index a c.loop-aggregation-test.true
    (ap leads (sym c.aggregation-item.is) ∙ sym c.aggregation_leads.ensures ∙ c.if-aggregation_leads.true))

pub loop-aggregation-preserved : goal.loop-aggregation-preserved
loop-aggregation-preserved c =
    let net = c.args.linked.now in
    let leads : AggregationEntry → Bool = λ a. lead_to net c.args.process
    (exporters_of net (slice_get net.holders a.holder)) in
    let a = c.aggregation-item.result in
    list_any_more leads c.args.aggregations.now c.loop-aggregation.aggregation-index a c.loop-aggregation-test.true
    ∙ or_from _ _ c.loop-aggregation.invariant
    (ap leads (sym c.aggregation-item.is) ∙ sym c.aggregation_leads.ensures ∙ c.if-aggregation_leads.false)

pub returns : goal.returns
returns c =
    let net = c.args.linked.now in
    let leads : AggregationEntry → Bool = λ a. lead_to net c.args.process
    (exporters_of net (slice_get net.holders a.holder)) in
    sym c.loop-aggregation.invariant ∙ ap (list_any leads)
    (take_all c.loop-aggregation.aggregation-index c.args.aggregations.now c.loop-aggregation-test.false)
