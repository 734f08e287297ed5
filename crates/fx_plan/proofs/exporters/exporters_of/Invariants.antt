use Rattle.std.proofs.Common.{◌≡◌, take}
use Rattle.fx_plan.specs.Tables.{exporters_of}
use Rattle.fx_plan.proofs.exporters.exporters_of.Given as goal

abbrev pub invariant-loop-device : goal.invariant-loop-device
invariant-loop-device l = l.exporters.items ≡ exporters_of l.links (take l.device-index l.devices)
