-- Documents as octets: JSON texts in UTF-8 (RFC 8259), and what a command's two documents declare.
use Rattle.std.specs.Prelude.{◌≡◌, ◌⊎◌, ℕ, ◌≤◌, Bool, List, [], length, IsUtf8, IfSome, Option, Some, string_bytes}
use Rattle.serde_json.specs.Data.{Data}
use Rattle.serde_json.specs.Read.{read}
use Rattle.fx_base.specs.declared.fault.Fault.{Fault}
use Rattle.fx_base.specs.declared.fault.Place.{Place}
use Rattle.fx_base.specs.declared.fault.Place.TheVariants as places
use Rattle.fx_base.specs.Device.{IsUnread, MayHaveLeft}
use Rattle.fx_base.specs.Fault.{fault_at}
use Rattle.fx_base.specs.Refusals.{failed_read, not_json}
use Rattle.fx_walk.specs.Walk.{FoundFault, first}
use Rattle.fx_tables.specs.Classes.{Class}
use Rattle.fx_tables.specs.Limits.{layout_limit}
use Rattle.fx_topology.specs.declared.network.NetworkDocument.{NetworkDocument}
use Rattle.fx_plan.specs.Layouts.{layouts_of}
use Rattle.fx_topology.specs.Networks.{device_names, network_faults, network_of}
use Rattle.fx_plan.specs.Plans.{RefusesNetwork}
use Rattle.fx_ranks.specs.Ranks.{IsStuck}
use Rattle.fx_plan.specs.Tables.{net_of}
use Rattle.fx_traffic.specs.Classes.{traffic_faults, traffic_of}

-- a source can't be read to its end: its last call failed, or it was called 2 to the 32 times and hasn't ended
abbrev pub ReadFails : Option (List ℕ) → ℕ → ℕ → Bool → Fault → Type 0
ReadFails left before after failed e = (e ≡ fault_at failed_read places.None) × IsUnread left before after failed

-- this source can't be read to its end, by the octets left, the number of calls and whether the last call failed
abbrev pub CannotRead : {R : Type 0} → (R → Option (List ℕ)) → (R → ℕ) → (R → Bool) → R → R → Fault → Type 0
CannotRead left calls failed old new e = ReadFails (left old) (calls old) (calls new) (failed new) e

-- the octets are the text of this value
abbrev pub IsJson : List ℕ → Data → Type 0
IsJson octets d = IsUtf8 octets × (read octets ≡ Some d)

-- the octets are a document with this meaning and without faults
pub record IsDocument {X : Type 0} (faults : Data → List FoundFault) (meaning : Data → X) (octets : List ℕ) (x : X) :
    Type 0 where
  pub value : Data
  pub json : IsJson octets value
  pub faultless : faults value ≡ []
  pub means : x ≡ meaning value

abbrev pub is_found : ℕ → Place → List FoundFault → Type 0
is_found n (places.Text s) fs = first fs ≡ Some (n, string_bytes s)
is_found n _ fs = ⊥

-- the first fault of a document: 101 if the octets aren't a JSON text
abbrev pub IsFirstFault : (Data → List FoundFault) → List ℕ → Fault → Type 0
IsFirstFault faults octets e =
    ((e ≡ fault_at not_json places.None) × ((d : Data) → IsJson octets d → ⊥))
    ⊎ ((d : Data) × IsJson octets d × is_found e.number e.place (faults d))

-- a network has no more layouts than allowed, and its links form no cycle
abbrev pub IsPlannable : NetworkDocument → Type 0
IsPlannable network = (length (layouts_of (net_of network)) ≤ layout_limit)
    × ((process : ℕ) → IsStuck (net_of network) process → ⊥)

-- the octets are the document of a network
pub record IsNetworkDocument (octets : List ℕ) (network : NetworkDocument) : Type 0 where
  pub document : IsDocument (network_faults []) network_of octets network
  pub plannable : IsPlannable network

-- the first fault of the document itself, otherwise the refusal of the network that it declares
pub data IsRefusedNetwork (octets : List ℕ) (e : Fault) : Type 0 where
  by_walk : IsFirstFault (network_faults []) octets e → IsRefusedNetwork octets e
  by_plan : (network : NetworkDocument) → IsDocument (network_faults []) network_of octets network
      → RefusesNetwork network e → IsRefusedNetwork octets e

-- the octets declare the traffic that crosses this network
abbrev pub IsTraffic : NetworkDocument → List ℕ → List Class → Type 0
IsTraffic network octets classes = IsDocument (traffic_faults (device_names network) [])
    (traffic_of (device_names network)) octets classes

-- the first fault of a command's two documents, of which the network's is read first
abbrev pub IsRefusedByDocuments : List ℕ → List ℕ → Fault → Type 0
IsRefusedByDocuments network_octets traffic_octets e =
    IsRefusedNetwork network_octets e
    ⊎ ((network : NetworkDocument) × IsNetworkDocument network_octets network
    × IsFirstFault (traffic_faults (device_names network) []) traffic_octets e)

-- a predicate on octets that two sources may have left
abbrev pub BothMayHaveLeft : Option (List ℕ) → Option (List ℕ) → (List ℕ → List ℕ → Type 0) → Type 0
BothMayHaveLeft left_n left_t P = MayHaveLeft left_n (λ n. MayHaveLeft left_t (λ t. P n t))

-- what holds if a network's document that is left is refused, and what holds if one of two documents is
abbrev pub IfNetworkRefused : Option (List ℕ) → Type 0 → Type 0
IfNetworkRefused left P = IfSome left (λ n. (e : Fault) → IsRefusedNetwork n e → P)

abbrev pub IfDocumentsRefused : Option (List ℕ) → Option (List ℕ) → Type 0 → Type 0
IfDocumentsRefused left_n left_t P = IfSome left_n
    (λ n. IfSome left_t (λ t. (e : Fault) → IsRefusedByDocuments n t e → P))

-- ---- the network and the traffic that two documents declare

-- the predicate holds for the network and the traffic that the documents declare
pub record InDocuments (P : NetworkDocument → List Class → Type 0) (network_octets traffic_octets : List ℕ) : Type 0
  where
    pub network : NetworkDocument
    pub classes : List Class
    pub network_is : IsNetworkDocument network_octets network
    pub traffic_is : IsTraffic network traffic_octets classes
    pub holds : P network classes

-- the first refusal: that of the documents, otherwise that of the network and traffic that they declare
abbrev pub IsRefusedIn : (NetworkDocument → List Class → Type 0) → List ℕ → List ℕ → Fault → Type 0
IsRefusedIn Refused network_octets traffic_octets e =
    IsRefusedByDocuments network_octets traffic_octets e
    ⊎ ((network : NetworkDocument) × (classes : List Class) × IsNetworkDocument network_octets network
    × IsTraffic network traffic_octets classes × Refused network classes)
