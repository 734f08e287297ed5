-- A running network before anything is read.
use Rattle.std.specs.Prelude.{ℕ, List, ◌++◌, map, Option, Some, None}
use Rattle.std.specs.List.{flat_map}
use Rattle.fx_config.specs.declared.cache.Cache.{Cache}
use Rattle.fx_config.specs.declared.cache.CacheKind.{CacheKind}
use Rattle.fx_config.specs.declared.cache.CacheKind.TheVariants as kind
use Rattle.fx_tables.specs.Network.{Net, Exporter, Holder}
use Rattle.fx_link.specs.Ongoing.{Ongoing, at_rest}
use Rattle.fx_link.specs.Wires.{new_wire}
use Rattle.fx_collect.specs.Totals.{nothing}
use Rattle.fx_topology.specs.declared.network.NetworkDocument.{NetworkDocument}
use Rattle.fx_plan.specs.Labels.{exporting_labels}
use Rattle.fx_plan.specs.Tables.{net_of, aggregation_holders}
use Rattle.fx_net.specs.Stores.{Stored, new_store}
use Rattle.fx_net.specs.Contents.{Contents}

-- `maxFlows` bounds every cache that isn't immediate
abbrev pub store_of_kind : CacheKind → ℕ → Option Stored
store_of_kind kind.Immediate max_flows = None
store_of_kind kind.Timeout max_flows = Some (new_store max_flows)
store_of_kind kind.Natural max_flows = Some (new_store max_flows)
store_of_kind kind.Permanent max_flows = Some (new_store max_flows)

abbrev pub store_of : Cache → Option Stored
store_of cache = store_of_kind cache.kind cache.max_flows

abbrev pub caches_in : NetworkDocument → List Cache
caches_in network = flat_map (λ device. device.config.caches) network.devices

abbrev pub aggregations_in : NetworkDocument → List Holder
aggregations_in network = aggregation_holders (exporting_labels network.devices) network.devices

-- the stores of aggregations are unbounded
abbrev pub aggregation_stores : List Holder → List (Option Stored)
aggregation_stores aggregations = map (λ (_ : Holder). Some (new_store 0)) aggregations

-- the stores of all caches, then those of all aggregations
abbrev pub stores_of : NetworkDocument → List (Option Stored)
stores_of network = map store_of (caches_in network) ++ aggregation_stores (aggregations_in network)

abbrev pub new_links : List ℕ → List Ongoing
new_links places = map (λ (_ : ℕ). at_rest new_wire) places

-- each exporting process begins with its first destination
abbrev pub first_chosen : List Exporter → List ℕ
first_chosen exporters = map (λ (_ : Exporter). 1) exporters

abbrev pub opened_on : Net → List (Option Stored) → Contents
opened_on net stores = record {
  stores = stores;
  links = new_links net.links;
  chosen = first_chosen net.exporters;
  totals = nothing net.report_layout;
  second = 0;
}

abbrev pub opening_contents : NetworkDocument → Contents
opening_contents network = opened_on (net_of network) (stores_of network)
