use Rattle.std.proofs.Common.{length}
use Rattle.fx_topology.proofs.ends.+device_named.Given as goal

abbrev pub decreases-device_named : goal.decreases-device_named
decreases-device_named l = length l.devices.now
