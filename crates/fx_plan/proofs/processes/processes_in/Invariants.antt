use Rattle.std.proofs.Common.{◌≡◌, ◌++◌, take, drop, length}
use Rattle.fx_plan.specs.Tables.{aggregation_holders, processes_in}
use Rattle.fx_plan.proofs.processes.processes_in.Given as goal

abbrev pub invariant-loop-device : goal.invariant-loop-device
invariant-loop-device l =
    (l.holders.items ≡ l.initial.holders.items ++ aggregation_holders l.exporting (take l.device-index l.devices))
    × (l.processes.items ++ processes_in l.exporting (length l.holders.items) (drop l.device-index l.devices)
    ≡ processes_in l.exporting (length l.initial.holders.items) l.devices)
