use Rattle.std.proofs.Common.{◌≡◌, ◌++◌, take, drop, length}
use Rattle.fx_plan.specs.Tables.{held_by, processes_from}
use Rattle.fx_plan.proofs.processes.push_processes.Given as goal

abbrev pub invariant-loop-process : goal.invariant-loop-process
invariant-loop-process l =
    (l.holders.items ≡ l.initial.holders.items ++ held_by l.exporting l.device (take l.process-index l.collecting))
    × (l.processes.items ++ processes_from l.exporting l.device (length l.holders.items)
    (drop l.process-index l.collecting)
    ≡ l.initial.processes.items ++ processes_from l.exporting l.device (length l.initial.holders.items) l.collecting)
