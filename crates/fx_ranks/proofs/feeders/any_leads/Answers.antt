use Rattle.std.proofs.Common.{Bool, ℕ, ap, slice_get, sym, ◌∙◌}
use Rattle.std.proofs.lemmas.Bool.{or_from}
use Rattle.std.proofs.lemmas.List.{take_all}
use Rattle.std.proofs.lemmas.List.Folds.{list_any_at, list_any_more}
use Rattle.std.specs.List.{list_any}
use Rattle.fx_ranks.specs.Feeding.{leads_at}
use Rattle.fx_ranks.proofs.feeders.any_leads.Goals as goal

pub returns-then-leads_at : goal.returns-then-leads_at
returns-then-leads_at c =
    let leads : ℕ → Bool = λ index. leads_at c.args.linked.now c.args.process
    (slice_get c.args.linked.now.exporters index) in
    sym (list_any_at leads c.args.places.now c.loop-index.index-index _ c.loop-index-test.true
    (sym c.leads_at.ensures ∙ c.if-leads_at.true))

pub loop-index-preserved : goal.loop-index-preserved
loop-index-preserved c =
    let leads : ℕ → Bool = λ index. leads_at c.args.linked.now c.args.process
    (slice_get c.args.linked.now.exporters index) in
    list_any_more leads c.args.places.now c.loop-index.index-index _ c.loop-index-test.true
    ∙ or_from _ _ c.loop-index.invariant (sym c.leads_at.ensures ∙ c.if-leads_at.false)

pub returns : goal.returns
returns c =
    let leads : ℕ → Bool = λ index. leads_at c.args.linked.now c.args.process
    (slice_get c.args.linked.now.exporters index) in
    sym c.loop-index.invariant ∙ ap (list_any leads)
    (take_all c.loop-index.index-index c.args.places.now c.loop-index-test.false)
