-- The tables of a network.
use Rattle.std.specs.Prelude.{ℕ, Bool, ◌&&◌, ◌==◌, List, [], ◌∷◌, Option, Some, None, slice_get}
use Rattle.std.specs.List.{list_all}
pub use Rattle.fx_base.specs.Entries.{entry_numbered}
use Rattle.fx_layout.specs.Keys.{Layout, Key, reads, refines, bits_on}
use Rattle.fx_tables.specs.declared.aggregation.MatchEntry.{MatchEntry}
use Rattle.fx_tables.specs.declared.observation.Selection.{Selection}
use Rattle.fx_tables.specs.declared.holder_name.HolderName.{HolderName}
use Rattle.fx_tables.specs.declared.holder_name.HolderName.TheVariants.{Cache, Aggregation as AggregationOf}

-- ---- the parts of a network

-- an exporting process: the link of each of its destinations, if it has one
pub record Exporter : Type 0 where
  pub parallel : Bool
  pub destinations : List (Option ℕ)

-- a cache or an aggregation: the layout of the records that it holds, and the indices of the exporting processes that
-- it names
pub record Holder : Type 0 where
  pub layout : Layout
  pub exporters : List ℕ

-- an aggregation: the holder of its records, and its match
pub record AggregationEntry : Type 0 where
  pub holder : ℕ
  pub matches : List MatchEntry

-- a collecting process
pub record Process : Type 0 where
  pub exporters : List ℕ
  pub aggregations : List AggregationEntry

-- an observation point: the names of its interfaces, the directions that it observes, and its selection processes
pub record Point : Type 0 where
  pub interfaces : List (List ℕ)
  pub ingress : Bool
  pub egress : Bool
  pub selections : List Selection

-- a device: its points, and the indices of its caches and of its collecting processes
pub record DeviceEntry : Type 0 where
  pub points : List Point
  pub caches : List ℕ
  pub processes : List ℕ

pub record Net : Type 0 where
  pub devices : List DeviceEntry
  pub exporters : List Exporter
  pub holders : List Holder
  pub processes : List Process
  pub links : List ℕ  -- the place of the collecting process to which each link leads
  pub report : ℕ  -- the place of the collecting process that tallies
  pub report_layout : Layout

-- ---- look-ups

-- the entries of an optional list
abbrev pub entries : {A : Type 0} → Option (List A) → List A
entries None = []
entries (Some xs) = xs

abbrev pub before : {A : Type 0} → Option A → List A → List A
before None xs = xs
before (Some x) xs = x ∷ xs

-- the entries at these indices
abbrev pub at_places : {A : Type 0} → List A → List ℕ → List A
at_places xs [] = []
at_places xs (place ∷ places) = before (slice_get xs place) (at_places xs places)

abbrev pub layout_of : Option Holder → Layout
layout_of None = []
layout_of (Some holder) = holder.layout

abbrev pub named_by : Option Holder → List ℕ
named_by None = []
named_by (Some holder) = holder.exporters

-- the exporting processes that a holder names
abbrev pub exporters_of : Net → Option Holder → List Exporter
exporters_of net holder = at_places net.exporters (named_by holder)

abbrev pub takes_with : List Holder → Key → AggregationEntry → Bool
takes_with holders key aggregation =
    refines key.layout (layout_of (slice_get holders aggregation.holder))
    && list_all (λ e. reads key.layout e.axis e.bits && bits_on key e.axis e.bits == e.value) aggregation.matches

-- an aggregation accepts a key if its own key and its match can be read from that key and the match holds
abbrev pub takes : Net → Key → AggregationEntry → Bool
takes net key aggregation = takes_with net.holders key aggregation

-- ---- the index in the table of a holder that is named by numbers

abbrev pub points_of : Option DeviceEntry → List Point
points_of None = []
points_of (Some device) = device.points

abbrev pub caches_of : Option DeviceEntry → List ℕ
caches_of None = []
caches_of (Some device) = device.caches

abbrev pub processes_of : Option DeviceEntry → List ℕ
processes_of None = []
processes_of (Some device) = device.processes

abbrev pub aggregations_of : Option Process → List AggregationEntry
aggregations_of None = []
aggregations_of (Some process) = process.aggregations

abbrev pub process_at : List Process → Option ℕ → Option Process
process_at processes None = None
process_at processes (Some place) = slice_get processes place

abbrev pub held_at : Option AggregationEntry → Option ℕ
held_at None = None
held_at (Some aggregation) = Some aggregation.holder

abbrev pub place_named : List DeviceEntry → List Process → HolderName → Option ℕ
place_named devices processes (Cache device cache) = entry_numbered (caches_of (entry_numbered devices device)) cache
place_named devices processes (AggregationOf device process aggregation) =
    held_at (entry_numbered (aggregations_of
    (process_at processes (entry_numbered (processes_of (entry_numbered devices device)) process))) aggregation)

-- the index of the holder with this name, if there is one
abbrev pub holder_place : Net → HolderName → Option ℕ
holder_place net name = place_named net.devices net.processes name
