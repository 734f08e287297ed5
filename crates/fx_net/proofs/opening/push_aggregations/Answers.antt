use Rattle.std.proofs.Common.{List, Option, Some, [], ◌∷◌, ◌++◌, ◌∙◌, ap, append_assoc, take}
use Rattle.fx_net.specs.Stores.{Stored, new_store}
use Rattle.fx_net.specs.Opening.{aggregation_stores}
use Rattle.fx_net.proofs.HoldersInOrder.{same_more}
use Rattle.fx_net.proofs.opening.push_aggregations.Goals as goal

pub loop-aggregation-preserved : goal.loop-aggregation-preserved
loop-aggregation-preserved c =
    let before = c.args.stores.now.items in
    let n = c.loop-aggregation._aggregation-index in
    let all = c.args.aggregations.now in
    c.in_ok-push.ensures.items
    ∙ ap (λ (s : Stored). c.loop-aggregation.stores.items ++ Some s ∷ []) c.in_ok-new.ensures.ok
    ∙ ap (λ (xs : List (Option Stored)). xs ++ Some (new_store 0) ∷ []) c.loop-aggregation.invariant
    ∙ append_assoc before (aggregation_stores (take n all)) (Some (new_store 0) ∷ [])
    ∙ ap (λ (xs : List (Option Stored)). before ++ xs)
    (same_more (Some (new_store 0)) all n c.loop-aggregation-test.true)
