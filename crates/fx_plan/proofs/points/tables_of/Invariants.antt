use Rattle.std.proofs.Common.{◌≡◌, take, map}
use Rattle.fx_plan.specs.Tables.{table_of}
use Rattle.fx_plan.proofs.points.tables_of.Given as goal

abbrev pub invariant-loop-device : goal.invariant-loop-device
invariant-loop-device l = l.tables.items ≡ map (table_of l.caches l.collecting) (take l.device-index l.devices)
