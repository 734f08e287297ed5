use Rattle.std.proofs.Common.{◌≡◌, ◌+◌, take}
use Rattle.fx_topology.specs.NetworkDevices.{process_count}
use Rattle.fx_topology.proofs.process_count.are_too_many.Given as goal

abbrev pub invariant-loop-device : goal.invariant-loop-device
invariant-loop-device l = l.room + process_count (take l.device-index l.devices) ≡ l.most
