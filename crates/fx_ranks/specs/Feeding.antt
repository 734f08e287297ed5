-- Which collecting processes feed which: a process feeds those to which the records that it sends, and those that its
-- aggregations send, can be carried.
use Rattle.std.specs.Prelude.{ℕ, ◌==◌, Bool, true, false, not, ◌||◌, List, length, map, zip, Option, Some, None, slice_get, slice_set}
use Rattle.std.specs.List.{list_any, list_all, range_with_len}
use Rattle.fx_tables.specs.Network.{Net, Exporter, Process, at_places, exporters_of}

abbrev pub is_place : ℕ → Option ℕ → Bool
is_place place None = false
is_place place (Some other) = other == place

-- a destination has a link, which leads to this process
abbrev pub leads_to : Net → ℕ → Option ℕ → Bool
leads_to net process None = false
leads_to net process (Some link) = is_place process (slice_get net.links link)

-- an exporting process has a destination whose link leads to this process
abbrev pub leads_at : Net → ℕ → Option Exporter → Bool
leads_at net process None = false
leads_at net process (Some exporter) = list_any (leads_to net process) exporter.destinations

-- the collecting process to which a destination leads
abbrev pub end_of : Net → Option ℕ → Option ℕ
end_of net None = None
end_of net (Some link) = slice_get net.links link

-- for each process whether an exporting process has a destination that leads to it
abbrev pub linked_processes : Net → Exporter → List Bool
linked_processes net exporter = map (λ to. list_any (leads_to net to) exporter.destinations)
    (range_with_len 0 (length net.processes))

abbrev pub with_flag : List Bool → Option ℕ → List Bool
with_flag flags None = flags
with_flag flags (Some place) = slice_set flags place true

abbrev pub lead_to : Net → ℕ → List Exporter → Bool
lead_to net process exporters = list_any (λ e. list_any (leads_to net process) e.destinations) exporters

abbrev pub feeds_by : Net → ℕ → Option Process → Bool
feeds_by net to None = false
feeds_by net to (Some process) =
    lead_to net to (at_places net.exporters process.exporters)
    || list_any (λ a. lead_to net to (exporters_of net (slice_get net.holders a.holder))) process.aggregations

-- an exporting process that the first or one of its aggregations names has a destination linked to the second
abbrev pub feeds : Net → ℕ → ℕ → Bool
feeds net from to = feeds_by net to (slice_get net.processes from)

-- the indices of all processes
abbrev pub places_of : Net → List ℕ
places_of net = range_with_len 0 (length net.processes)

-- for each process whether it feeds this one
abbrev pub feeders : Net → ℕ → List Bool
feeders net process = map (λ from. feeds net from process) (places_of net)

-- every process that is a feeder has already come
abbrev pub have_come : List Bool → List Bool → Bool
have_come feeders come = list_all (λ x. not x.0 || x.1) (zip feeders come)
