use Rattle.std.proofs.Common.{◌≡◌, take}
use Rattle.fx_plan.specs.Tables.{cache_holders}
use Rattle.fx_plan.proofs.holders.cache_holders.Given as goal

abbrev pub invariant-loop-device : goal.invariant-loop-device
invariant-loop-device l = l.holders.items ≡ cache_holders l.exporting (take l.device-index l.devices)
