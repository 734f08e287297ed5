use Rattle.std.proofs.Common.{◌≡◌, ℕ, ◌+◌, [], ◌∷◌, ◌++◌, length, refl, ap, ◌∙◌}
use Rattle.std.proofs.lemmas.List.{length_push}
use Rattle.fx_config.specs.declared.aggregation.Aggregation.{Aggregation}
use Rattle.fx_plan.specs.Tables.{aggregation_holder, aggregations_from}
use Rattle.fx_plan.proofs.Loops.{one_made, all_made, one_left, none_left}
use Rattle.fx_plan.proofs.processes.push_aggregations.Goals as goal

pub loop-aggregation-preserved : goal.loop-aggregation-preserved
loop-aggregation-preserved c =
    let i = c.loop-aggregation.invariant in
    let n = c.loop-aggregation.aggregation-index in
    let held = aggregation_holder c.args.exporting.now c.args.device.now in
    let holders = c.loop-aggregation.holders.items in
    let aggregation = c.aggregation-item.result in
    let more : length c.push_aggregation.new.holders.items ≡ length holders + 1 =
    ap length c.in_ok-push_aggregation.ensures.held ∙ length_push holders (held aggregation) in (
      one_made held c.args.holders.now.items c.args.aggregations.now n aggregation (held aggregation) holders _
          c.loop-aggregation-test.true c.aggregation-item.is refl i.0 c.in_ok-push_aggregation.ensures.held,
      one_left aggregations_from (λ (k : ℕ) (a : Aggregation). aggregations_from k (a ∷ [])) (λ _. 1) (λ _ _ _. refl)
          c.args.aggregations.now n (length holders) _ aggregation c.loop-aggregation.taken.items _ _
          c.loop-aggregation-test.true c.aggregation-item.is more i.1 c.in_ok-push_aggregation.ensures.tables,
    )

pub returns-clause-held : goal.returns-clause-held
returns-clause-held c =
    all_made (aggregation_holder c.args.exporting.now c.args.device.now) c.args.holders.now.items
    c.args.aggregations.now c.loop-aggregation.aggregation-index c.loop-aggregation.holders.items
    c.loop-aggregation-test.false c.loop-aggregation.invariant.0

pub returns-clause-tables : goal.returns-clause-tables
returns-clause-tables c =
    none_left aggregations_from (λ _. refl) c.args.aggregations.now c.loop-aggregation.aggregation-index
    (length c.loop-aggregation.holders.items) c.loop-aggregation.taken.items _ c.loop-aggregation-test.false
    c.loop-aggregation.invariant.1
