use Rattle.std.proofs.Common.{◌∙◌, ap, sym, ◌++◌, List}
use Rattle.std.proofs.lemmas.List.{take_all}
use Rattle.std.proofs.lemmas.Result.{err_from_is_err_and}
use Rattle.fx_tables.specs.declared.holding.Holding.{Holding}
use Rattle.fx_tables.specs.Takers.{intake_of, intakes}
use Rattle.fx_tables.proofs.Meterings.{aggregated_more}
use Rattle.fx_tables.proofs.takers.intakes_of.Goals as goal

pub loop-aggregation-preserved : goal.loop-aggregation-preserved
loop-aggregation-preserved c =
    let a = c.aggregation-item.result in
    c.in_ok-push_intake.ensures ∙ ap (λ (xs : List Holding). xs ++ intake_of c.args.holders.now c.args.key.now a)
    c.loop-aggregation.invariant ∙ sym (aggregated_more c.args.holders.now c.args.key.now
    c.loop-aggregation.aggregation-index c.args.aggregations.now a c.loop-aggregation-test.true
    c.aggregation-item.is)

pub returns-in_err-push_intake : goal.returns-in_err-push_intake
returns-in_err-push_intake c =
    let p = err_from_is_err_and c.from_residual.result c.from_residual.ensures.1 in
    rw (p.1) tt

pub returns : goal.returns
returns c = c.loop-aggregation.invariant
    ∙ ap (intakes c.args.holders.now c.args.key.now)
    (take_all c.loop-aggregation.aggregation-index c.args.aggregations.now c.loop-aggregation-test.false)
