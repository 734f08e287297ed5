-- Network documents that name only some axes.
use Rattle.std.specs.Prelude.{◌≡◌, ⊤, Bool, true, All}
use Rattle.fx_elements.specs.declared.axis.Axis.{Axis}
use Rattle.fx_config.specs.declared.aggregation.Aggregation.{Aggregation}
use Rattle.fx_config.specs.declared.cache.Cache.{Cache}
use Rattle.fx_config.specs.declared.collecting_process.CollectingProcess.{CollectingProcess}
use Rattle.fx_config.specs.declared.ipfix.Device.{Device}
use Rattle.fx_config.specs.declared.selection_process.SelectionProcess.{SelectionProcess}
use Rattle.fx_config.specs.declared.selector.Method.{Method}
use Rattle.fx_config.specs.declared.selector.Method.TheVariants.{SelectAll, FilterMatch}
use Rattle.fx_config.specs.declared.selector.Selector.{Selector}
use Rattle.fx_tables.specs.NamedAxes.{LayoutNamesOnly}
use Rattle.fx_plan.specs.Tables.{report_layout_of}
use Rattle.fx_topology.specs.declared.network.NetworkDocument.{NetworkDocument}
use Rattle.fx_topology.specs.declared.network_device.NetworkDevice.{NetworkDevice}

-- a filter is on a named axis
abbrev pub MethodNamesOnly : (Axis → Bool) → Method → Type 0
MethodNamesOnly named SelectAll = ⊤
MethodNamesOnly named (FilterMatch m) = named m.axis ≡ true

abbrev pub SelectorsNameOnly : (Axis → Bool) → SelectionProcess → Type 0
SelectorsNameOnly named process = All (λ (s : Selector). MethodNamesOnly named s.method) process.selectors

abbrev pub AggregationsNameOnly : (Axis → Bool) → CollectingProcess → Type 0
AggregationsNameOnly named process = All (λ (a : Aggregation). LayoutNamesOnly named a.key) process.aggregations

-- the filters, cache fields and aggregation keys of a device use only named axes; the matches of aggregations may use
-- any axis
pub record DeviceNamesOnly (named : Axis → Bool) (device : Device) : Type 0 where
  pub selectors : All (SelectorsNameOnly named) device.selection_processes
  pub caches : All (λ (c : Cache). LayoutNamesOnly named c.layout) device.caches
  pub aggregations : All (AggregationsNameOnly named) device.collecting_processes

-- all devices, and the report's key, use only named axes
pub record DocumentNamesOnly (named : Axis → Bool) (network : NetworkDocument) : Type 0 where
  pub devices : All (λ (x : NetworkDevice). DeviceNamesOnly named x.config) network.devices
  pub report : LayoutNamesOnly named (report_layout_of network)
