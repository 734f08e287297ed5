-- Tables of a network whose things have equal names on several devices, and orders of ranks, worked out by the
-- definitions.
use Rattle.std.proofs.Common.{◌≡◌, ◌<◌, ℕ, zero, suc, true, false, List, [], ◌∷◌, Some, None, refl, arith, ltb-true}
use Rattle.std.specs.Prelude.{codes, nat_lt}
use Rattle.std.specs.Fmt.{digits}
use Rattle.fx_elements.specs.declared.axis.Axis.TheVariants.{Source, Destination, Protocol}
use Rattle.fx_elements.specs.declared.element.Element.TheVariants.{Prefix}
use Rattle.fx_layout.specs.Keys.{Layout}
use Rattle.fx_tables.specs.Network as machine
use Rattle.fx_config.specs.declared.cache.CacheKind.TheVariants.{Timeout}
use Rattle.fx_config.specs.declared.destination.Destination.{Destination as ExportDestination}
use Rattle.fx_config.specs.declared.destination.Transport.TheVariants.{Tcp}
use Rattle.fx_config.specs.declared.exporting_process.ExportMode.TheVariants.{Parallel, LoadBalancing, Fallback}
use Rattle.fx_config.specs.declared.observation_point.Direction.TheVariants.{Ingress}
use Rattle.fx_config.specs.declared.property_match.PropertyMatch.{PropertyMatch}
use Rattle.fx_config.specs.declared.selector.Method.TheVariants.{FilterMatch}
use Rattle.fx_topology.specs.declared.link.NamedLink.{NamedLink}
use Rattle.fx_topology.specs.declared.network.NetworkDocument.{NetworkDocument}
use Rattle.fx_topology.specs.declared.network_device.NetworkDevice.{NetworkDevice}
use Rattle.fx_plan.specs.Cycles.{stuck_text}
use Rattle.fx_ranks.specs.Feeding.{feeds}
use Rattle.fx_plan.specs.Layouts.{layouts_of}
use Rattle.fx_ranks.specs.Ranks.{IsRankOrder, IsStuck}
use Rattle.fx_plan.specs.Tables.{net_of}

abbrev source : ℕ → Layout
source bits = record { axis = Source; bits = bits } ∷ []

-- 10.1.0.0/16, 10.1.2.0/24, TCP and UDP
abbrev large : PropertyMatch
large = record { axis = Source; range = record { low = 167837696; high = 167903231; bits = 16 } }

abbrev small : PropertyMatch
small = record { axis = Source; range = record { low = 167838208; high = 167838463; bits = 24 } }

abbrev protocol : ℕ → PropertyMatch
protocol value = record { axis = Protocol; range = record { low = value; high = value; bits = 8 } }

abbrev to : List ℕ → ExportDestination
to name = record { name = name; transport = Tcp }

-- a router, which falls back to a destination that has no link
abbrev router : NetworkDevice
router = record {
  name = codes "router";
  config = record {
    observation_points = record {
      name = codes "in";
      observation_domain_id = 1;
      interfaces = codes "eth0" ∷ codes "eth1"
          ∷ [];
      direction = Ingress;
      selection_processes = codes "both" ∷ codes "large" ∷ [];
    } ∷ [];
    selection_processes = record {
      name = codes "large";
      selectors =
          record { name = codes "a"; method = FilterMatch large } ∷ [];
      cache = Some (codes "cache");
    }
        ∷ record {
          name = codes "both";
          selectors = record { name = codes "a"; method = FilterMatch (protocol 6) }
              ∷ record { name = codes "b"; method = FilterMatch (protocol 17) } ∷ [];
          cache = None;
        } ∷ [];
    caches = record {
      name = codes "cache";
      kind = Timeout;
      max_flows = 0;
      layout = source 32;
      exporting_processes =
          codes "export" ∷ [];
    } ∷ [];
    exporting_processes = record {
      name = codes "export";
      mode = Fallback;
      destinations = to (codes "first")
          ∷ to (codes "second") ∷ [];
    } ∷ [];
    collecting_processes = [];
  };
}

-- a mediator, which has a cache of its own, sends all records on, and those of a small network by their /24 too
abbrev mediator : NetworkDevice
mediator = record {
  name = codes "mediator";
  config = record {
    observation_points = [];
    selection_processes = [];
    caches = record {
      name = codes "cache";
      kind = Timeout;
      max_flows = 0;
      layout =
          record { axis = Destination; bits = 32 } ∷ [];
      exporting_processes = codes "export" ∷ [];
    } ∷ [];
    exporting_processes = record { name = codes "other"; mode = LoadBalancing; destinations = to (codes "first") ∷ [] }
        ∷ record { name = codes "export"; mode = Parallel; destinations = to (codes "first") ∷ [] } ∷ [];
    collecting_processes = record {
      name = codes "collect";
      exporting_processes = codes "export" ∷ [];
      aggregations =
          record {
            name = codes "by network";
            key = source 24;
            matches = small ∷ [];
            exporting_processes = codes "other"
                ∷ [];
          } ∷ [];
    } ∷ [];
  };
}

-- a host with these collecting processes alone
abbrev host : NetworkDevice
host = record {
  name = codes "host";
  config = record {
    observation_points = [];
    selection_processes = [];
    caches = [];
    exporting_processes = [];
    collecting_processes = record { name = codes "unused"; exporting_processes = []; aggregations = [] }
        ∷ record { name = codes "collect"; exporting_processes = []; aggregations = [] } ∷ [];
  };
}

-- from a device's exporting process to the collecting process of this name on another
abbrev link : List ℕ → List ℕ → List ℕ → NamedLink
link device process to_device = record {
  device = device;
  exporting_process = process;
  destination =
      codes "first";
  to_device = to_device;
  to_process = codes "collect";
}

abbrev network : NetworkDocument
network = record {
  devices = router ∷ mediator ∷ host ∷ [];
  links = link (codes "mediator") (codes "other") (codes "host")
      ∷ link (codes "router") (codes "export") (codes "mediator")
      ∷ link (codes "mediator") (codes "export") (codes "host") ∷ [];
  report = record {
    device = codes "host";
    collecting_process = codes "collect";
    key =
        record { element = Prefix Source; prefix_length = Some 16 } ∷ [];
  };
}

-- The router's exporting process comes first, then the mediator's two in its order; both caches come before the
-- aggregation.
-- No packet is both TCP and UDP. The match is the leading 24 bits, and the mediator's process leads to the host's
-- second.
abbrev tables : machine.Net
tables = record {
  devices = record {
    points = record {
      interfaces = codes "eth0" ∷ codes "eth1" ∷ [];
      ingress = true;
      egress = false;
      selections = record { region = None; holder = None }
          ∷ record {
            region = Some (record {
              low = 167837696 ∷ 0 ∷ 0 ∷ 0 ∷ 0 ∷ 0 ∷ 0 ∷ 0 ∷ 0 ∷ [];
              high = 167903231
                  ∷ 4294967295 ∷ 255 ∷ 65535 ∷ 65535 ∷ 255 ∷ 255 ∷ 340282366920938463463374607431768211455
                  ∷ 340282366920938463463374607431768211455 ∷ [];
            });
            holder = Some 0;
          } ∷ [];
    } ∷ [];
    caches = 0 ∷ [];
    processes = [];
  } ∷ record { points = []; caches = 1 ∷ []; processes = 0 ∷ [] }
      ∷ record { points = []; caches = []; processes = 1 ∷ 2 ∷ [] } ∷ [];
  exporters = record { parallel = false; destinations = Some 1 ∷ None ∷ [] }
      ∷ record { parallel = false; destinations = Some 0 ∷ [] } ∷ record { parallel = true; destinations = Some 2 ∷ [] }
      ∷ [];
  holders = record { layout = source 32; exporters = 0 ∷ [] }
      ∷ record { layout = record { axis = Destination; bits = 32 } ∷ []; exporters = 2 ∷ [] }
      ∷ record { layout = source 24; exporters = 1 ∷ [] } ∷ [];
  processes = record {
    exporters = 2 ∷ [];
    aggregations =
        record { holder = 2; matches = record { axis = Source; bits = 24; value = 655618 } ∷ [] } ∷ [];
  }
      ∷ record { exporters = []; aggregations = [] } ∷ record { exporters = []; aggregations = [] } ∷ [];
  links = 2 ∷ 0 ∷ 2 ∷ [];
  report = 2;
  report_layout = source 16;
}

are_tables : net_of network ≡ tables
unfolding net_of
are_tables = refl

-- the layouts of what holds records, and the report's
all_layouts : layouts_of tables ≡ source 32 ∷ (record { axis = Destination; bits = 32 } ∷ []) ∷ source 24 ∷ source 16
    ∷ []
all_layouts = refl

-- ---- ranks

-- the mediator's process, the host's unused one, and the report behind the first
in_order : IsRankOrder tables (0 ∷ 1 ∷ 2 ∷ [])
in_order = (refl, (refl, (refl, refl)))

-- three collecting processes, each of which sends on to the next, and the last to the first
abbrev collector : List ℕ → NetworkDevice
collector name = record {
  name = name;
  config = record {
    observation_points = [];
    selection_processes = [];
    caches = [];
    exporting_processes = record { name = codes "export"; mode = Parallel; destinations = to (codes "first") ∷ [] }
        ∷ [];
    collecting_processes = record {
      name = codes "collect";
      exporting_processes = codes "export" ∷ [];
      aggregations =
          [];
    } ∷ [];
  };
}

abbrev circle : NetworkDocument
circle = record {
  devices = collector (codes "a") ∷ collector (codes "b") ∷ collector (codes "c") ∷ [];
  links = link (codes "a") (codes "export") (codes "b") ∷ link (codes "b") (codes "export") (codes "c")
      ∷ link (codes "c") (codes "export") (codes "a") ∷ [];
  report = record { device = codes "a"; collecting_process = codes "collect"; key = [] };
}

-- none of them ever comes
none_comes : IsRankOrder (net_of circle) []
unfolding net_of
none_comes = refl

-- each is stuck: it is fed by one of them
first_is_stuck : IsStuck (net_of circle) 0
unfolding net_of
first_is_stuck = record { among = λ p. nat_lt p 3; is_among = refl; within = record { feeder = fed } } where
  fed : (process : ℕ) → nat_lt process 3 ≡ true → (p : ℕ) × (nat_lt p 3 ≡ true)
      × (feeds (net_of circle) p process ≡ true)
  fed zero h = (2, refl, refl)
  fed (suc zero) h = (0, refl, refl)
  fed (suc (suc zero)) h = (1, refl, refl)
  fed (suc (suc (suc n))) h = let few : suc (suc (suc n)) < 3 = ltb-true _ _ h in absurd (omega (arith, few))

-- they are reported by the numbers of their devices, and their own on them
reported : stuck_text circle.devices (0 ∷ 1 ∷ 2 ∷ []) ≡ codes "1.1 2.1 3.1"
unfolding digits
reported = refl
