-- Networks in which no record gets stuck.
use Rattle.std.specs.Prelude.{◌≡◌, ℕ, ◌<◌, false, All, length, Some, IfSome}
use Rattle.fx_tables.specs.declared.observation.Selection.{Selection}
use Rattle.fx_tables.specs.declared.holder_name.HolderName.{HolderName}
use Rattle.fx_tables.specs.Network.{Net, Exporter, AggregationEntry, Process, Point, DeviceEntry, holder_place}

-- the holder exists, and a step can name it
pub record IsHolder (net : Net) (holder : ℕ) : Type 0 where
  pub name : HolderName
  pub named : holder_place net name ≡ Some holder
  pub there : holder < length net.holders

-- each destination's link exists; if one destination is chosen, there is at least one
pub record HasDestinations (net : Net) (e : Exporter) : Type 0 where
  pub links : All (λ d. IfSome d (λ link. link < length net.links)) e.destinations
  pub some : e.parallel ≡ false → 0 < length e.destinations

abbrev pub HasAggregations : Net → Process → Type 0
HasAggregations net p = All (λ (a : AggregationEntry). IsHolder net a.holder) p.aggregations

abbrev pub HasCaches : Net → DeviceEntry → Type 0
HasCaches net d = All (λ (p : Point). All (λ (s : Selection). IfSome s.holder (IsHolder net)) p.selections) d.points

-- each record that is sent goes to an existing link, and each held record can be named by a step
pub record IsRunnable (net : Net) : Type 0 where
  pub destinations : All (HasDestinations net) net.exporters
  pub aggregations : All (HasAggregations net) net.processes
  pub caches : All (HasCaches net) net.devices
