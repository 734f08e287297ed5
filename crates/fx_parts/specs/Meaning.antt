-- The tables of a network with each number looked up, except those of collecting processes.
use Rattle.std.specs.Prelude.{ℕ, Bool, List, [], ◌∷◌, ◌++◌, map, filter, Option, Some, None, slice_get, if◌then◌else◌}
use Rattle.fx_elements.specs.Axes.{Fields}
use Rattle.fx_boxes.specs.Boxes.{Bounds}
use Rattle.fx_layout.specs.Keys.{Layout}
use Rattle.fx_tables.specs.declared.aggregation.MatchEntry.{MatchEntry}
use Rattle.fx_tables.specs.declared.observation.Selection.{Selection}
use Rattle.fx_tables.specs.declared.traffic.Crossing.{Crossing}
use Rattle.fx_tables.specs.Network.{Net, Exporter, Holder, AggregationEntry, Process, Point, at_places, exporters_of, layout_of, points_of}
use Rattle.fx_base.specs.Entries.{entry_numbered}
use Rattle.fx_tables.specs.Occurrences.{selects, watches}

-- ---- entries

-- an exporting process: for each of its destinations, the place of the collecting process that it leads to, if any
pub record Sending : Type 0 where
  pub parallel : Bool
  pub leads : List (Option ℕ)

-- a cache or an aggregation: its layout, and what each exporting process that it names does
pub record Holding : Type 0 where
  pub layout : Layout
  pub sendings : List Sending

-- an aggregation: its match, and the holder of its records
pub record AggregationHandling : Type 0 where
  pub matches : List MatchEntry
  pub holding : Holding

-- a collecting process: what its exporting processes do, and its aggregations
pub record Handling : Type 0 where
  pub sendings : List Sending
  pub takings : List AggregationHandling

-- a selection process that has a cache: what it selects, and its cache
pub record Metering : Type 0 where
  pub region : Option Bounds
  pub holding : Holding

-- ---- looking up

abbrev pub lead : Net → Option ℕ → Option ℕ
lead net None = None
lead net (Some link) = slice_get net.links link

abbrev pub sending_of : Net → Exporter → Sending
sending_of net exporter = record { parallel = exporter.parallel; leads = map (lead net) exporter.destinations }

abbrev pub holding_of : Net → Option Holder → Holding
holding_of net holder = record { layout = layout_of holder; sendings = map (sending_of net) (exporters_of net holder) }

abbrev pub taking_of : Net → AggregationEntry → AggregationHandling
taking_of net aggregation = record {
  matches = aggregation.matches;
  holding =
      holding_of net (slice_get net.holders aggregation.holder);
}

abbrev pub handling_of : Net → Option Process → Handling
handling_of net None = record { sendings = []; takings = [] }
handling_of net (Some process) =
    record {
      sendings = map (sending_of net) (at_places net.exporters process.exporters);
      takings =
          map (taking_of net) process.aggregations;
    }

abbrev pub metering_of : Net → Option Bounds → Option ℕ → List Metering
metering_of net region None = []
metering_of net region (Some holder) = record {
  region = region;
  holding =
      holding_of net (slice_get net.holders holder);
} ∷ []

-- those of these selection processes that have a cache
abbrev pub meterings_of : Net → List Selection → List Metering
meterings_of net [] = []
meterings_of net (s ∷ ss) = metering_of net s.region s.holder ++ meterings_of net ss

-- the selection processes with a cache of the observation points that observe a crossing
abbrev pub meterings_at : Net → List Point → Crossing → List Metering
meterings_at net [] crossing = []
meterings_at net (point ∷ points) crossing =
    (if watches point crossing then meterings_of net point.selections else []) ++ meterings_at net points crossing

-- the selection processes with a cache that a packet on a path passes, in order
abbrev pub meterings : Net → List Crossing → List Metering
meterings net [] = []
meterings net (c ∷ cs) = meterings_at net (points_of (entry_numbered net.devices c.device)) c ++ meterings net cs

-- the caches that meter a packet on a path, in order
abbrev pub taken_by : Net → List Crossing → Fields → List Holding
taken_by net path fields = map (λ m. m.holding) (filter (λ m. selects m.region fields) (meterings net path))
