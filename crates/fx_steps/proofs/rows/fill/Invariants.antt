use Rattle.std.proofs.Common.{◌≡◌, drop}
use Rattle.fx_steps.specs.CostTables.{cost_fill}
use Rattle.fx_steps.proofs.rows.fill.Given as goal

abbrev pub invariant-loop-process : goal.invariant-loop-process
invariant-loop-process l =
    cost_fill l.tables.net l.tables.numbering l.packet.fields (drop l.process-index l.process-items) l.rows
    ≡ cost_fill l.tables.net l.tables.numbering l.packet.fields l.process-items l.initial.rows
