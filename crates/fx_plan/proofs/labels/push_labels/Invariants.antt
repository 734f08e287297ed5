use Rattle.std.proofs.Common.{◌≡◌, ◌++◌, take}
use Rattle.fx_plan.specs.Labels.{device_labels}
use Rattle.fx_plan.proofs.labels.push_labels.Given as goal

abbrev pub invariant-loop-thing : goal.invariant-loop-thing
invariant-loop-thing g l = l.labels.items ≡ l.initial.labels.items
    ++ device_labels g.T.Named.name l.device (take l.thing-index l.things)
