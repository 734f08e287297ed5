-- The documents of a whole network, of any size.
use Rattle.std.specs.Prelude.{◌≡◌, ◌⊎◌, ◌+◌, ◌-◌, ◌^◌, ℕ, List, [], IfSome, Option}
use Rattle.serde_json.specs.Data.{Data}
use Rattle.fx_base.specs.declared.fault.Fault.{Fault}
use Rattle.fx_base.specs.declared.fault.Place.TheVariants as places
use Rattle.fx_base.specs.Fault.{fault_at}
use Rattle.fx_base.specs.Refusals.{link_cycle}
use Rattle.fx_tables.specs.Classes.{Class}
use Rattle.fx_tables.specs.Ranks.{IsNetwork}
use Rattle.fx_topology.specs.declared.limits.Sizes.{Sizes}
use Rattle.fx_topology.specs.declared.network.NetworkDocument.{NetworkDocument}
use Rattle.fx_topology.specs.Networks.{device_names, network_faults_within, network_of}
use Rattle.fx_plan.specs.Tables.{net_of}
use Rattle.fx_traffic.specs.Classes.{traffic_faults_within, traffic_of}
use Rattle.fx_checker.specs.Documents.{IsDocument, IsFirstFault}

-- as many entries of a list as a machine can count
abbrev pub entry_limit : ℕ
entry_limit = 2 ^ 64 - 1

abbrev pub whole_sizes : Sizes
whole_sizes = record { devices = entry_limit; links = entry_limit; processes = entry_limit }

-- the faults of the document of a whole network, and of the declaration of the traffic over these devices
abbrev pub whole_faults : Data → List (ℕ × List ℕ)
whole_faults = network_faults_within whole_sizes []

abbrev pub whole_traffic_faults : NetworkDocument → Data → List (ℕ × List ℕ)
whole_traffic_faults network = traffic_faults_within entry_limit (device_names network) []

-- the octets are the document of a network
pub record IsWholeNetwork (octets : List ℕ) (network : NetworkDocument) : Type 0 where
  pub document : IsDocument whole_faults network_of octets network
  pub ranked : IsNetwork (net_of network)

-- the octets declare the traffic that crosses this network
abbrev pub IsWholeTraffic : NetworkDocument → List ℕ → List Class → Type 0
IsWholeTraffic network octets classes =
    IsDocument (whole_traffic_faults network) (traffic_of (device_names network)) octets classes

-- the first fault of the document itself, otherwise that no order of its collecting processes was found
pub data IsRefusedWhole (octets : List ℕ) (e : Fault) : Type 0 where
  by_walk : IsFirstFault whole_faults octets e → IsRefusedWhole octets e
  by_cycle : (network : NetworkDocument) → IsDocument whole_faults network_of octets network
      → e ≡ fault_at link_cycle places.None → IsRefusedWhole octets e

-- the first fault of the two documents, of which the network's is read first
abbrev pub IsRefusedByWhole : List ℕ → List ℕ → Fault → Type 0
IsRefusedByWhole network_octets traffic_octets e =
    IsRefusedWhole network_octets e
    ⊎ ((network : NetworkDocument) × IsWholeNetwork network_octets network
    × IsFirstFault (whole_traffic_faults network) traffic_octets e)

-- what holds if the walk of the network's document that is left finds a fault
abbrev pub IfWholeFaulty : Option (List ℕ) → Type 0 → Type 0
IfWholeFaulty left P = IfSome left (λ n. (e : Fault) → IsFirstFault whole_faults n e → P)

-- what holds if the walk of one of the two documents that are left finds a fault
abbrev pub IfBothFaulty : Option (List ℕ) → Option (List ℕ) → Type 0 → Type 0
IfBothFaulty left_n left_t P = IfSome left_n (λ n. IfSome left_t (λ t. (e : Fault)
    → IsFirstFault whole_faults n e ⊎ ((network : NetworkDocument) × IsWholeNetwork n network
    × IsFirstFault (whole_traffic_faults network) t e) → P))
