-- A network from its tables, one by one.
use Rattle.std.proofs.Common.{◌≡◌, ℕ, List, map, refl}
use Rattle.fx_layout.specs.Keys.{Layout}
use Rattle.fx_tables.specs.Network as machine
use Rattle.fx_plan.specs.Labels.{Label, cache_labels, collecting_labels, place}
use Rattle.fx_plan.specs.Tables.{exporters_of, holders_of, processes_of, table_of, report_layout_of, net_of}
use Rattle.fx_topology.specs.declared.link.NamedLink.{NamedLink}
use Rattle.fx_topology.specs.declared.network.NetworkDocument.{NetworkDocument}
use Rattle.fx_topology.specs.declared.network_device.NetworkDevice.{NetworkDevice}

pub net_is : (network : NetworkDocument) (things : List NetworkDevice) (ways : List NamedLink) (collecting : List Label)
    (devices : List machine.DeviceEntry) (exporters : List machine.Exporter) (holders : List machine.Holder)
    (processes : List machine.Process) (links : List ℕ) (report : ℕ) (layout : Layout)
    → things ≡ network.devices → ways ≡ network.links → collecting ≡ collecting_labels network.devices
    → devices ≡ map (table_of (cache_labels things) collecting) things → exporters ≡ exporters_of network.links things
    → holders ≡ holders_of things → processes ≡ processes_of things
    → links ≡ map (λ link. place collecting link.to_device link.to_process) ways → report
    ≡ place collecting network.report.device network.report.collecting_process → layout ≡ report_layout_of network
    → record {
      devices = devices;
      exporters = exporters;
      holders = holders;
      processes = processes;
      links =
          links;
      report = report;
      report_layout = layout;
    } ≡ net_of network
unfolding net_of
net_is network things ways collecting devices exporters holders processes links report layout e1 e2 e3 e4 e5 e6 e7 e8 e9
    e10 = rw (e4, e5, e6, e7, e8, e9, e10, e3, e1, e2) refl
