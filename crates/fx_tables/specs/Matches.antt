-- The invariant of the matches of a network's aggregations.
use Rattle.std.specs.Prelude.{◌^◌, ◌<◌, ◌≤◌}
use Rattle.std.specs.List.{AllByRecursion}
use Rattle.fx_elements.specs.Axes.{axis_width}
use Rattle.fx_tables.specs.Network.{Net, AggregationEntry, Process}
use Rattle.fx_tables.specs.declared.aggregation.MatchEntry.{MatchEntry}

-- an entry has no more bits than its axis, and its value fits in those bits
abbrev pub IsEntry : MatchEntry → Type 0
IsEntry e = (e.bits ≤ axis_width e.axis) × (e.value < 2 ^ e.bits)

abbrev pub HasEntries : AggregationEntry → Type 0
HasEntries aggregation = AllByRecursion IsEntry aggregation.matches

abbrev pub AllHaveEntries : Process → Type 0
AllHaveEntries process = AllByRecursion HasEntries process.aggregations

abbrev pub AreEntries : Net → Type 0
AreEntries net = AllByRecursion AllHaveEntries net.processes
