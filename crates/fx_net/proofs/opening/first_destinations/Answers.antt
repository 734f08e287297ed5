use Rattle.std.proofs.Common.{ℕ, List, [], ◌∷◌, ◌++◌, ◌∙◌, ap}
use Rattle.fx_net.proofs.HoldersInOrder.{same_more}
use Rattle.fx_net.proofs.opening.first_destinations.Goals as goal

pub loop-exporter-preserved : goal.loop-exporter-preserved
loop-exporter-preserved c =
    c.in_ok-push.ensures.items
    ∙ ap (λ (xs : List ℕ). xs ++ 1 ∷ []) c.loop-exporter.invariant
    ∙ same_more 1 c.args.exporters.now c.loop-exporter._exporter-index c.loop-exporter-test.true
