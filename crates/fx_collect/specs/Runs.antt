-- The totals of a run.
use Rattle.std.specs.Prelude.{◌≡◌, List, Ok}
use Rattle.fx_layout.specs.Keys.{IsLayout}
use Rattle.fx_tables.specs.declared.packet.Packet.{Packet}
use Rattle.fx_run_text.specs.declared.step.Step.{Step}
use Rattle.fx_tables.specs.Network.{Net}
use Rattle.fx_tables.specs.Classes.{Class}
use Rattle.fx_machine.specs.States.{State, opening, wrapped_state}
use Rattle.fx_machine.specs.Steps.{run}
use Rattle.fx_collect.specs.Totals.{IsTable, totals_of, totals_in}

-- a property of the last state of each run
abbrev pub AfterRuns : (Net → State → Type 0) → Type 0
AfterRuns P =
    (net : Net) (classes : List Class) (packets : List Packet) (steps : List Step) (last : State)
    → run net classes packets steps (opening net classes packets) ≡ Ok last → P net last

-- under the report's layout, the totals of a state have each key once
abbrev pub HasTable : Net → State → Type 0
HasTable net last = IsTable net.report_layout last.totals

-- the totals recomputed record by record are the totals in the state
abbrev pub HasExactTotals : Net → State → Type 0
HasExactTotals net last =
    IsLayout net.report_layout → totals_of net.report_layout (wrapped_state last)
    ≡ totals_in net.report_layout (wrapped_state last)
