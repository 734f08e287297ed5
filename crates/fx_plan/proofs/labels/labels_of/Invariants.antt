use Rattle.std.proofs.Common.{◌≡◌, length, take}
use Rattle.fx_plan.specs.Labels.{AreGrouped, labels_of}
use Rattle.fx_plan.proofs.labels.labels_of.Given as goal

abbrev pub invariant-loop-device : goal.invariant-loop-device
invariant-loop-device g l =
    record {
      labels : l.labels.items ≡ labels_of g.T.Thing.things g.T.Named.name (take l.device-index l.devices);
      groups : AreGrouped 0 l.labels.items l.groups.items (length l.labels.items);
    }
