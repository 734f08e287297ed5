use Rattle.std.proofs.Common.{◌≡◌, ◌++◌, take, map}
use Rattle.fx_plan.specs.Tables.{exporter_of}
use Rattle.fx_plan.proofs.exporters.push_exporters.Given as goal

abbrev pub invariant-loop-process : goal.invariant-loop-process
invariant-loop-process l = l.exporters.items ≡ l.initial.exporters.items
    ++ map (exporter_of l.links l.device) (take l.process-index l.processes)
