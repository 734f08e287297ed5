-- Least numbers of steps by table: an entry for each collecting process and each layout, for one packet.
use Rattle.std.specs.Prelude.{ℕ, suc, ◌==◌, List, [], ◌∷◌, Option, Some, None, slice_get, slice_set, if◌then◌else◌}
use Rattle.fx_elements.specs.Axes.{Fields}
use Rattle.fx_layout.specs.Keys.{Layout, Key, refines, key_of}
use Rattle.fx_tables.specs.Network.{Net, Exporter, AggregationEntry, Process, at_places, exporters_of, takes}
use Rattle.fx_tables.specs.declared.observation.Occurrence.{Occurrence}
use Rattle.fx_tables.specs.declared.traffic.Crossing.{Crossing}
use Rattle.fx_tables.specs.Occurrences.{occurrences}
use Rattle.fx_tables.specs.declared.packet.Packet.{Packet}
use Rattle.fx_leaf.specs.Tables.{Numbering, Tables, number_of_layout}
use Rattle.fx_steps.specs.declared.costs.Costs.{Costs}
use Rattle.fx_steps.specs.Costs.{costs_of_never, costs_of_once, costs_of_unassigned, costs_of_no_way, one_step_more, either_costs, both_costs}

-- for each collecting process a row, with an entry for each layout
abbrev pub CostTable : Type 0
CostTable = List (List Costs)

-- the data from which a packet's least numbers of steps are computed: what a plan provides, and the table
pub record PacketCosts : Type 0 where
  pub tables : Tables
  pub packet : Packet
  pub table : CostTable

abbrev pub or_never : Option Costs → Costs
or_never None = costs_of_never
or_never (Some c) = c

abbrev pub cost_in : Option (List Costs) → ℕ → Costs
cost_in None number = costs_of_never
cost_in (Some row) number = or_never (slice_get row number)

abbrev pub cost_entry : CostTable → ℕ → ℕ → Costs
cost_entry table process number = cost_in (slice_get table process) number

-- ---- a record, with the layout of this number, that is sent

abbrev pub process_costs : CostTable → ℕ → Option ℕ → Costs
process_costs table number None = costs_of_never
process_costs table number (Some process) = cost_entry table process number

abbrev pub destination_costs : CostTable → Net → ℕ → Option ℕ → Costs
destination_costs table net number None = costs_of_never
destination_costs table net number (Some link) = one_step_more (process_costs table number (slice_get net.links link))

abbrev pub all_destinations_costs : CostTable → Net → ℕ → List (Option ℕ) → Costs
all_destinations_costs table net number [] = costs_of_never
all_destinations_costs table net number (d ∷ ds) =
    both_costs (destination_costs table net number d) (all_destinations_costs table net number ds)

abbrev pub one_destination_costs : CostTable → Net → ℕ → List (Option ℕ) → Costs
one_destination_costs table net number [] = costs_of_no_way
one_destination_costs table net number (d ∷ ds) =
    either_costs (destination_costs table net number d) (one_destination_costs table net number ds)

abbrev pub send_costs : CostTable → Net → ℕ → Exporter → Costs
send_costs table net number e = if e.parallel then all_destinations_costs table net number e.destinations
    else one_destination_costs table net number e.destinations

abbrev pub sent_costs : CostTable → Net → ℕ → List Exporter → Costs
sent_costs table net number [] = costs_of_never
sent_costs table net number (e ∷ es) = both_costs (send_costs table net number e) (sent_costs table net number es)

-- ---- a record that arrives at a collecting process

-- a record that a holder adds
abbrev pub holder_costs : CostTable → Net → Numbering → ℕ → Costs
holder_costs table net n holder = one_step_more
    (sent_costs table net (number_of_layout n holder) (exporters_of net (slice_get net.holders holder)))

abbrev pub all_taken_costs : CostTable → Net → Numbering → Key → List AggregationEntry → Costs
all_taken_costs table net n key [] = costs_of_never
all_taken_costs table net n key (a ∷ as') =
    if takes net key a then both_costs (holder_costs table net n a.holder) (all_taken_costs table net n key as')
    else all_taken_costs table net n key as'

abbrev pub tally_costs : Net → Layout → ℕ → Costs
tally_costs net layout process = if process == net.report
    then (if refines layout net.report_layout then costs_of_once else costs_of_unassigned) else costs_of_never

abbrev pub handled_costs : CostTable → Net → Numbering → Fields → ℕ → Layout → Option Process → Costs
handled_costs table net n fields number layout None = costs_of_never
handled_costs table net n fields number layout (Some p) =
    both_costs (sent_costs table net number (at_places net.exporters p.exporters))
    (all_taken_costs table net n (key_of layout fields) p.aggregations)

abbrev pub cost_entry_from : CostTable → Net → Numbering → Fields → ℕ → ℕ → Layout → Costs
cost_entry_from table net n fields process number layout =
    both_costs (tally_costs net layout process)
    (handled_costs table net n fields number layout (slice_get net.processes process))

-- a row, starting at the layout of this number
abbrev pub cost_row : CostTable → Net → Numbering → Fields → ℕ → ℕ → List Layout → List Costs
cost_row table net n fields process number [] = []
cost_row table net n fields process number (layout ∷ layouts) =
    cost_entry_from table net n fields process number layout ∷ cost_row table net n fields process (suc number) layouts

-- the rows of these processes, filled in order
abbrev pub cost_fill : Net → Numbering → Fields → List ℕ → CostTable → CostTable
cost_fill net n fields [] table = table
cost_fill net n fields (process ∷ processes) table =
    cost_fill net n fields processes (slice_set table process (cost_row table net n fields process 0 n.layouts))

-- ---- a packet

-- the records that the caches of these occurrences add
abbrev pub occurrence_costs : CostTable → Net → Numbering → List Occurrence → Costs
occurrence_costs table net n [] = costs_of_never
occurrence_costs table net n (o ∷ os) = both_costs (holder_costs table net n o.holder) (occurrence_costs table net n os)

abbrev pub path_costs : CostTable → Net → Numbering → Fields → List Crossing → Costs
path_costs table net n fields [] = costs_of_never
path_costs table net n fields (c ∷ cs) =
    both_costs (one_step_more (occurrence_costs table net n (occurrences net c fields)))
    (path_costs table net n fields cs)
