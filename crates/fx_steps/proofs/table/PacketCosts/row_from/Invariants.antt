use Rattle.std.proofs.Common.{◌≡◌, take}
use Rattle.fx_steps.specs.CostTables.{cost_row}
use Rattle.fx_steps.proofs.table.PacketCosts.row_from.Given as goal

abbrev pub invariant-loop-number : goal.invariant-loop-number
invariant-loop-number l = l.row ≡ cost_row l.self.table l.self.tables.net l.self.tables.numbering l.self.packet.fields
    l.process 0 (take l.number l.layouts)
