-- What a running network does, step by step.
use Rattle.std.specs.Prelude.{◌≡◌, ◌≢◌, ℕ, zero, suc, ◌==◌, ◌^◌, ◌≤◌, ◌<◌, Bool, true, false, List, [], ◌∷◌, map, length, position, slice_get, Option, Some, None, IsSome}
use Rattle.std.specs.List.{flat_map, range_with_len}
use Rattle.fx_boxes.specs.Boxes.{IsFields, holds}
use Rattle.fx_tables.specs.declared.packet.Packet.{Packet}
use Rattle.fx_tables.specs.declared.holder_name.HolderName.{HolderName}
use Rattle.fx_tables.specs.declared.holder_name.HolderName.TheVariants as holder
use Rattle.fx_tables.specs.Network.{Net, DeviceEntry, Exporter, Process, AggregationEntry, aggregations_of, holder_place}
use Rattle.fx_base.specs.Entries.{entry_numbered}
use Rattle.fx_tables.specs.Classes.{Class, path}
use Rattle.fx_machine.specs.Steps.{one_packet}
use Rattle.fx_link.specs.Links.{Put}
use Rattle.fx_pcap.specs.Captures.{Seen}
use Rattle.fx_topology.specs.declared.network.NetworkDocument.{NetworkDocument}
use Rattle.fx_plan.specs.Tables.{net_of}
use Rattle.fx_plan.specs.ExporterPlaces.{exporter_place}
use Rattle.fx_net.specs.declared.action.Action.{Action}
use Rattle.fx_net.specs.declared.action.Action.TheVariants as action
use Rattle.fx_net.specs.Contents.{Contents, with_changed}
use Rattle.fx_net.specs.Leaving.{least_at, after_least, after_emptying}
use Rattle.fx_net.specs.Metering.{after_path}
use Rattle.fx_net.specs.Arriving.{after_carrying, queued_on}
use Rattle.fx_net.specs.Finishing.{after_finishing, PutsAll}

-- ---- steps

-- a relation between what the network holds before a step and after it, while the step's records still wait on links
abbrev pub Making : Type 1
Making = Contents → Contents → Type 0

-- a relation between two states in which no records wait: the octets written to links, and what the network holds
abbrev pub Doing : Type 1
Doing = Put → Contents → Put → Contents → Type 0

-- a step is done, and the records that it put on links are written out
pub record Ended (makes : Making) (before : Put) (old : Contents) (after : Put) (new : Contents) : Type 0 where
  pub done : Contents
  pub made : makes old done
  pub put : PutsAll before after done.second done.links
  pub new_is : new ≡ after_finishing done

-- ---- reading a packet

-- the packet of a frame, which has a value on each axis; its number of octets fits in 32 bits
pub record IsFrame (packet : Packet) (frame : Seen) : Type 0 where
  pub fields : packet.fields ≡ frame.fields
  pub octets : packet.octets ≡ frame.octets
  pub values : IsFields frame.fields
  pub few : frame.octets < 2 ^ 32

-- the class and the path that a line assigns to a packet; by default the first class whose region contains it, and path
-- 1
abbrev pub IsGiven : List Class → Action → Packet → Type 0
IsGiven classes action.Next p =
    (k : ℕ) × (position (λ (c : Class). holds c.region p.fields) classes ≡ Some k) × (p.class ≡ suc k) × (p.path ≡ 1)
IsGiven classes (action.NextOf class path) p =
    (c : Class) × (entry_numbered classes class ≡ Some c) × (holds c.region p.fields ≡ true) × (p.class ≡ class)
    × (p.path ≡ path) × (entry_numbered c.paths path ≢ None)
IsGiven classes _ p = ⊥

-- a packet with this timestamp in seconds makes all of its crossings
abbrev pub after_packet : Net → List Class → Packet → ℕ → Contents → Contents
after_packet net classes p second c =
    after_path net p.fields (one_packet p) (path classes p) (record c { second = second })

-- the packet of a frame is read, whose timestamp in seconds fits in 32 bits
pub record ReadsFrame (net : Net) (classes : List Class) (line : Action) (frame : Seen) (old done : Contents) : Type 0
  where
    pub packet : Packet
    pub is_frame : IsFrame packet frame
    pub given : IsGiven classes line packet
    pub soon : frame.second < 2 ^ 32
    pub done_is : done ≡ after_packet net classes packet frame.second old

-- ---- removing records from a holder, and carrying octets

-- the record with the least key leaves a holder
pub record LeastLeaves (net : Net) (name : HolderName) (old done : Contents) : Type 0 where
  pub place : ℕ
  pub named : holder_place net name ≡ Some place
  pub there : IsSome (least_at old place)
  pub done_is : done ≡ after_least net place old

-- all records of the holder at this index leave, in ascending order of keys
abbrev pub Empties : Net → ℕ → Making
Empties net place old done = done ≡ after_emptying net place old

-- this number of octets of the link at this index is carried
pub record Carries (net : Net) (link n : ℕ) (old done : Contents) : Type 0 where
  pub there : link < length old.links
  pub enough : n ≤ queued_on (slice_get old.links link)
  pub done_is : done ≡ after_carrying net link n old

-- all octets of the link at this index are carried
abbrev pub CarriesWhole : Net → ℕ → Making
CarriesWhole net link old done = done ≡ after_carrying net link (queued_on (slice_get old.links link)) old

-- ---- executing a line

-- an exporting process sends to this destination from now on
pub record Uses (network : NetworkDocument) (device exporter destination : ℕ) (old done : Contents) : Type 0 where
  pub place : ℕ
  pub there : exporter_place network device exporter ≡ Some place
  pub names : Exporter
  pub exporter_is : slice_get (net_of network).exporters place ≡ Some names
  pub destination_there : entry_numbered names.destinations destination ≢ None
  pub done_is : done ≡ record old { chosen = with_changed (λ (_ : ℕ). destination) old.chosen place }

abbrev pub ReadsNextFrame : Net → List Class → Action → Option Seen → Making
ReadsNextFrame net classes line None old done = ⊥
ReadsNextFrame net classes line (Some frame) old done = ReadsFrame net classes line frame old done

abbrev pub CarriesOn : Net → ℕ → ℕ → Making
CarriesOn net zero n old done = ⊥
CarriesOn net (suc link) n old done = Carries net link n old done

-- The effect of a line. The frame is the next one of the capture, if there is one.
abbrev pub DoesAction : NetworkDocument → List Class → Option Seen → Action → Making
DoesAction network classes frame action.Next = ReadsNextFrame (net_of network) classes action.Next frame
DoesAction network classes frame (action.NextOf class path) =
    ReadsNextFrame (net_of network) classes (action.NextOf class path) frame
DoesAction network classes frame (action.Expire device cache) = LeastLeaves (net_of network) (holder.Cache device cache)
DoesAction network classes frame (action.Emit device process aggregation) =
    LeastLeaves (net_of network) (holder.Aggregation device process aggregation)
DoesAction network classes frame (action.Carry link n) = CarriesOn (net_of network) link n
DoesAction network classes frame (action.Use device exporter destination) = Uses network device exporter destination

-- whether a line reads a packet
abbrev pub reads_packet : Action → Bool
reads_packet action.Next = true
reads_packet (action.NextOf class path) = true
reads_packet _ = false

-- ---- the closing phase

abbrev pub Nothing : Doing
Nothing before old after new = (after ≡ before) × (new ≡ old)

-- the first, then the second
abbrev pub Then : Doing → Doing → Doing
Then first second before old after new = (put : Put) × (mid : Contents) × first before old put mid
    × second put mid after new

-- the same for each item in turn
abbrev pub Each : {A : Type 0} → (A → Doing) → List A → Doing
Each do_ [] = Nothing
Each do_ (x ∷ xs) = Then (do_ x) (Each do_ xs)

-- the places of all caches, in document order
abbrev pub caches_of_all : Net → List ℕ
caches_of_all net = flat_map (λ (d : DeviceEntry). d.caches) net.devices

-- only if the condition holds
abbrev pub Where : Bool → Doing → Doing
Where true do_ = do_
Where false do_ = Nothing

-- the places of all links
abbrev pub link_places : Net → List ℕ
link_places net = range_with_len 0 (length net.links)

-- whether a link leads to a process
abbrev pub leads_to : Option ℕ → ℕ → Bool
leads_to None process = false
leads_to (Some to) process = to == process

-- all octets of the link at this index are carried if it leads to this process
abbrev pub CarriesInto : Net → ℕ → ℕ → Doing
CarriesInto net process link = Where (leads_to (slice_get net.links link) process) (Ended (CarriesWhole net link))

-- the indices of a process's aggregations among the holders
abbrev pub holders_of : Option Process → List ℕ
holders_of process = map (λ (a : AggregationEntry). a.holder) (aggregations_of process)

-- the holders at these indices are emptied, in order
abbrev pub EmptiesAll : Net → List ℕ → Doing
EmptiesAll net places = Each (λ place. Ended (Empties net place)) places

-- all octets of the links into a process are carried, in order of the links, and then its aggregations are emptied
abbrev pub Finishes : Net → ℕ → Doing
Finishes net process =
    Then (Each (CarriesInto net process) (link_places net))
    (EmptiesAll net (holders_of (slice_get net.processes process)))

-- all caches are emptied in document order, and then the collecting processes are finished in the given order
abbrev pub EmptiesNetwork : Net → List ℕ → Doing
EmptiesNetwork net ranked = Then (EmptiesAll net (caches_of_all net)) (Each (Finishes net) ranked)
