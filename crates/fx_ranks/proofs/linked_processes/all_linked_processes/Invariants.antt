use Rattle.std.proofs.Common.{◌≡◌, map, take}
use Rattle.fx_ranks.specs.Feeding.{linked_processes}
use Rattle.fx_ranks.proofs.linked_processes.all_linked_processes.Given as goal

abbrev pub invariant-loop-exporter : goal.invariant-loop-exporter
invariant-loop-exporter l = map (λ row. row.items) l.rows.items
    ≡ map (linked_processes l.net) (take l.exporter-index l.exporter-items)
