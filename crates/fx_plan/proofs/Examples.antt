-- A document of two devices, the network that it means, and that network's tables.
use Rattle.std.proofs.Common.{◌≡◌, ℕ, true, List, [], ◌∷◌, Some, None, refl}
use Rattle.std.specs.Prelude.{codes}
use Rattle.serde_json.specs.Data.{Data, null, string, number, unsigned, array, object, Items, no_items, item, Members, no_members, member}
use Rattle.fx_elements.specs.declared.axis.Axis.TheVariants.{Source}
use Rattle.fx_elements.specs.declared.element.Element.TheVariants.{OnAxis}
use Rattle.fx_tables.specs.Network as machine
use Rattle.fx_config.specs.declared.cache.CacheKind.TheVariants.{Timeout}
use Rattle.fx_config.specs.declared.destination.Transport.TheVariants.{Tcp}
use Rattle.fx_config.specs.declared.exporting_process.ExportMode.TheVariants.{Parallel}
use Rattle.fx_config.specs.declared.observation_point.Direction.TheVariants.{Both}
use Rattle.fx_config.specs.declared.selector.Method.TheVariants.{SelectAll}
use Rattle.fx_config.specs.Devices.{device_of}
use Rattle.fx_topology.specs.declared.network.NetworkDocument.{NetworkDocument}
use Rattle.fx_topology.specs.Networks.{network_of}
use Rattle.fx_plan.specs.Tables.{net_of}

-- ---- the document: a router that meters all packets by their source, and a host that collects its records

abbrev items : List Data → Items
items [] = no_items
items (d ∷ ds) = item d (items ds)

abbrev members : List (List ℕ × Data) → Members
members [] = no_members
members (m ∷ ms) = member m.0 m.1 (members ms)

abbrev list : List Data → Data
list ds = array (items ds)

-- an object has its members in the order of their names
abbrev with_members : List (List ℕ × Data) → Data
with_members ms = object (members ms)

abbrev named : List ℕ → Data
named name = with_members ((codes "ieName", string name) ∷ [])

abbrev field : List ℕ → List ℕ → Data
field name element = with_members ((codes "ieName", string element) ∷ (codes "name", string name) ∷ [])

abbrev key_field : List ℕ → List ℕ → Data
key_field name element = with_members ((codes "ieName", string element) ∷ (codes "isFlowKey", list (null ∷ []))
    ∷ (codes "name", string name) ∷ [])

abbrev cache : Data
cache = with_members (
    (codes "exportingProcess", list (string (codes "to billing") ∷ [])) ∷
    (codes "name", string (codes "by source")) ∷ (
      codes "timeoutCache",
      with_members ((
        codes "cacheLayout",
        with_members ((
          codes "cacheField",
          list (key_field (codes "source") (codes "sourceIPv4Address")
              ∷ field (codes "octets") (codes "octetDeltaCount") ∷ field (codes "packets") (codes "packetDeltaCount")
              ∷ []),
        ) ∷ []
            ),
      ) ∷ []
          ),
    ) ∷ []
    )

abbrev exporting : Data
exporting = with_members ((
  codes "destination",
  list (with_members
      ((codes "name", string (codes "billing")) ∷ (codes "tcpExporter", with_members []) ∷ []) ∷ []),
) ∷
    (codes "name", string (codes "to billing")) ∷ []
    )

abbrev point : Data
point = with_members (
    (codes "ifName", list (string (codes "eth0") ∷ [])) ∷
    (codes "name", string (codes "uplink")) ∷
    (codes "observationDomainId", number (unsigned 1)) ∷
    (codes "selectionProcess", list (string (codes "all packets") ∷ [])) ∷ []
    )

abbrev selecting : Data
selecting = with_members (
    (codes "cache", string (codes "by source")) ∷
    (codes "name", string (codes "all packets")) ∷ (
      codes "selector",
      list (with_members ((codes "name", string (codes "everything"))
          ∷ (codes "selectAll", list (null ∷ [])) ∷ []) ∷ []),
    ) ∷ []
    )

abbrev device : List ℕ → List (List ℕ × Data) → Data
device name ms = with_members (
    (codes "config", with_members ((codes "ietf-ipfix-psamp:ipfix", with_members ms) ∷ [])) ∷
    (codes "name", string name) ∷ []
    )

abbrev router : Data
router = device (codes "edge-router") ((codes "cache", list (cache ∷ []))
    ∷ (codes "exportingProcess", list (exporting ∷ [])) ∷ (codes "observationPoint", list (point ∷ []))
    ∷ (codes "selectionProcess", list (selecting ∷ [])) ∷ [])

abbrev host : Data
host = device (codes "billing-host") ((
  codes "collectingProcess",
  list
      (with_members ((codes "name", string (codes "billing")) ∷ []) ∷ []),
) ∷ [])

abbrev link : Data
link = with_members (
    (codes "destination", string (codes "billing")) ∷
    (codes "device", string (codes "edge-router")) ∷
    (codes "exportingProcess", string (codes "to billing")) ∷
    (codes "toDevice", string (codes "billing-host")) ∷
    (codes "toProcess", string (codes "billing")) ∷ []
    )

abbrev report : Data
report = with_members (
    (codes "collectingProcess", string (codes "billing")) ∷
    (codes "device", string (codes "billing-host")) ∷
    (codes "key", list (named (codes "sourceIPv4Address") ∷ [])) ∷ []
    )

abbrev document : Data
document = with_members ((codes "devices", list (router ∷ host ∷ [])) ∷ (codes "links", list (link ∷ []))
    ∷ (codes "report", report) ∷ [])

-- ---- the network

abbrev network : NetworkDocument
network = record {
  devices = record {
    name = codes "edge-router";
    config = record {
      observation_points = record {
        name = codes "uplink";
        observation_domain_id = 1;
        interfaces = codes "eth0"
            ∷ [];
        direction = Both;
        selection_processes = codes "all packets" ∷ [];
      } ∷ [];
      selection_processes = record {
        name = codes "all packets";
        selectors =
            record { name = codes "everything"; method = SelectAll } ∷ [];
        cache = Some (codes "by source");
      } ∷ [];
      caches = record {
        name = codes "by source";
        kind = Timeout;
        max_flows = 0;
        layout =
            record { axis = Source; bits = 32 } ∷ [];
        exporting_processes = codes "to billing" ∷ [];
      } ∷ [];
      exporting_processes = record {
        name = codes "to billing";
        mode = Parallel;
        destinations =
            record { name = codes "billing"; transport = Tcp } ∷ [];
      } ∷ [];
      collecting_processes = [];
    };
  } ∷ record {
    name = codes "billing-host";
    config = record {
      observation_points = [];
      selection_processes = [];
      caches = [];
      exporting_processes = [];
      collecting_processes = record { name = codes "billing"; exporting_processes = []; aggregations = [] } ∷ [];
    };
  } ∷ [];
  links = record {
    device = codes "edge-router";
    exporting_process = codes "to billing";
    destination =
        codes "billing";
    to_device = codes "billing-host";
    to_process = codes "billing";
  } ∷ [];
  report = record {
    device = codes "billing-host";
    collecting_process = codes "billing";
    key =
        record { element = OnAxis Source; prefix_length = None } ∷ [];
  };
}

-- what isn't said stands for something too: the point sees both ways, the cache has no bound, records go to all
-- destinations
means : network_of document ≡ network
unfolding device_of
means = refl

-- ---- its tables, where names are places

abbrev tables : machine.Net
tables = record {
  devices = record {
    points = record {
      interfaces = codes "eth0" ∷ [];
      ingress = true;
      egress = true;
      selections = record {
        region = Some (record {
          low = 0 ∷ 0 ∷ 0 ∷ 0 ∷ 0 ∷ 0 ∷ 0 ∷ 0 ∷ 0 ∷ [];
          high = 4294967295 ∷ 4294967295 ∷ 255 ∷ 65535 ∷ 65535 ∷ 255
              ∷ 255 ∷ 340282366920938463463374607431768211455 ∷ 340282366920938463463374607431768211455 ∷ [];
        });
        holder =
            Some 0;
      } ∷ [];
    } ∷ [];
    caches = 0 ∷ [];
    processes = [];
  } ∷ record { points = []; caches = []; processes = 0 ∷ [] } ∷ [];
  exporters = record { parallel = true; destinations = Some 0 ∷ [] } ∷ [];
  holders = record { layout = record { axis = Source; bits = 32 } ∷ []; exporters = 0 ∷ [] } ∷ [];
  processes = record { exporters = []; aggregations = [] } ∷ [];
  links = 0 ∷ [];
  report = 0;
  report_layout = record { axis = Source; bits = 32 } ∷ [];
}

are_tables : net_of network ≡ tables
unfolding net_of
are_tables = refl
