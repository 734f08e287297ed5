use Rattle.std.proofs.Common.{◌≡◌, take, map}
use Rattle.fx_plan.specs.Labels.{place}
use Rattle.fx_plan.proofs.labels.places.Given as goal

abbrev pub invariant-loop-thing : goal.invariant-loop-thing
invariant-loop-thing g l = l.places.items
    ≡ map (λ t. place l.labels l.device (g.T.Named.name t)) (take l.thing-index l.things)
