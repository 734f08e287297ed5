-- The steps of the abstract network that correspond to the operations of a running one.
use Rattle.std.specs.Prelude.{◌≡◌, ℕ, zero, suc, true, false, Bool, List, [], ◌∷◌, ◌++◌, length, Option, Some, None, Ok, slice_get}
use Rattle.std.specs.List.{AllByRecursion}
use Rattle.std.specs.Ordering.{is_gt}
use Rattle.fx_base.specs.Entries.{entry_numbered}
use Rattle.fx_tables.specs.declared.holder_name.HolderName.{HolderName}
use Rattle.fx_tables.specs.declared.holder_name.HolderName.TheVariants as holder
use Rattle.fx_tables.specs.declared.record.Record.{Record}
use Rattle.fx_run_text.specs.declared.step.Step.{Step}
use Rattle.fx_run_text.specs.declared.step.Step.TheVariants.{Cross, Expire, Arrive}
use Rattle.fx_tables.specs.declared.packet.Packet.{Packet}
use Rattle.fx_machine.specs.Acts.{Choices}
use Rattle.fx_machine.specs.States.{State, opening}
use Rattle.fx_machine.specs.Steps.{run}
use Rattle.fx_tables.specs.Classes.{Class, path}
use Rattle.fx_tables.specs.Network.{Net, Process, holder_place, named_by}
use Rattle.fx_topology.specs.declared.network.NetworkDocument.{NetworkDocument}
use Rattle.fx_plan.specs.Tables.{net_of}
use Rattle.fx_plan.specs.ExporterPlaces.{exporter_place}
use Rattle.fx_runs.specs.Destinations.{sent_by}
use Rattle.fx_store.specs.Order.{key_cmp}
use Rattle.fx_net.specs.declared.action.Action.{Action}
use Rattle.fx_net.specs.declared.action.Action.TheVariants as action
use Rattle.fx_net.specs.Arriving.{process_behind}
use Rattle.fx_net.specs.Contents.{with_changed}
use Rattle.fx_net.specs.Doings.{IsGiven, caches_of_all, holders_of, leads_to, link_places}
use Rattle.fx_net.specs.Opening.{first_chosen}
use Rattle.fx_net.specs.Schedule.{AsksFor}

-- ---- rows: the steps of a run before and after what is done

abbrev pub Row : Type 1
Row = List Step → List Step → Type 0

abbrev pub NoStep : Row
NoStep from to = to ≡ from

-- one row, followed by another
abbrev pub Followed : Row → Row → Row
Followed one other from to = (mid : List Step) × one from mid × other mid to

-- a row for each of these, in order
abbrev pub InTurn : {A : Type 0} → (A → Row) → List A → Row
InTurn row [] = NoStep
InTurn row (x ∷ xs) = Followed (row x) (InTurn row xs)

-- a row this many times, and any number of times
abbrev pub Times : ℕ → Row → Row
Times zero row = NoStep
Times (suc n) row = Followed row (Times n row)

abbrev pub Repeated : Row → Row
Repeated row from to = (n : ℕ) × Times n row from to

-- ---- a record leaves a holder

-- The step by which the record of this number leaves the named holder at a place; it is sent to the destinations in
-- use.
abbrev pub expiry : Net → List ℕ → HolderName → ℕ → ℕ → Step
expiry net chosen name place number = Expire name number (sent_by net chosen (named_by (slice_get net.holders place)))

-- a record leaves
pub record Expires (net : Net) (chosen : List ℕ) (from to : List Step) : Type 0 where
  pub name : HolderName
  pub place : ℕ
  pub named : holder_place net name ≡ Some place
  pub number : ℕ
  pub to_is : to ≡ from ++ expiry net chosen name place number ∷ []

-- among the records that a holder holds, the record of this number has the least key
pub record IsLeastHeld (s : State) (place number : ℕ) : Type 0 where
  pub records : List Record
  pub there : slice_get s.held place ≡ Some records
  pub least : Record
  pub numbered : entry_numbered records number ≡ Some least
  pub is_least : AllByRecursion (λ (r : Record). is_gt (key_cmp least.key r.key) ≡ false) records

-- the record of the least key leaves, among those that the holder of this name, at this place, holds after the steps so
-- far
pub record LeastExpires (net : Net) (classes : List Class) (packets : List Packet) (chosen : List ℕ) (name : HolderName)
    (place : ℕ) (from to : List Step) : Type 0 where
  pub named : holder_place net name ≡ Some place
  pub state : State
  pub run_is : run net classes packets from (opening net classes packets) ≡ Ok state
  pub number : ℕ
  pub least : IsLeastHeld state place number
  pub to_is : to ≡ from ++ expiry net chosen name place number ∷ []

-- ---- a record arrives

-- The first record on a link arrives. The process sends it to the destinations in use.
pub record Arrives (net : Net) (chosen : List ℕ) (link : ℕ) (from to : List Step) : Type 0 where
  pub process : Process
  pub process_is : process_behind net link ≡ Some process
  pub joined : Choices
  pub to_is : to ≡ from ++ Arrive (suc link) 1 (sent_by net chosen process.exporters ++ joined) ∷ []

-- ---- a packet crosses

-- before a packet crosses an interface, records leave to make room, and after it the records of immediate caches leave
pub record IsCrossing (net : Net) (chosen : List ℕ) (packet crossing : ℕ) (from to : List Step) : Type 0 where
  pub room : List Step
  pub makes_room : Repeated (Expires net chosen) from room
  pub choices : Choices
  pub leave_at_once : Repeated (Expires net chosen) (room ++ Cross packet crossing choices ∷ []) to

-- this number of crossings, starting with this one
abbrev pub AreCrossings : Net → List ℕ → ℕ → ℕ → ℕ → Row
AreCrossings net chosen packet crossing zero = NoStep
AreCrossings net chosen packet crossing (suc n) =
    Followed (IsCrossing net chosen packet crossing) (AreCrossings net chosen packet (suc crossing) n)

-- ---- lines

-- a run so far, and for each exporting process the number of the destination in use
pub record Course : Type 0 where
  pub chosen : List ℕ
  pub packets : List Packet
  pub steps : List Step

-- the course advances by steps of this row
abbrev pub Makes : Row → Course → Course → Type 0
Makes row from to = (steps : List Step) × row from.steps steps × (to ≡ record from { steps = steps })

-- a packet of the class and the path given by a line is read, and makes its crossings
pub record Reads (net : Net) (classes : List Class) (asked : Action) (packet : Packet) (from to : Course) : Type 0 where
  pub given : IsGiven classes asked packet
  pub steps : List Step
  pub crosses : AreCrossings net from.chosen (suc (length from.packets)) 1 (length (path classes packet)) from.steps
      steps
  pub to_is : to ≡ record from { packets = from.packets ++ packet ∷ []; steps = steps }

-- the destinations in use after an exporting process selects this one
abbrev pub with_destination : Option ℕ → ℕ → List ℕ → List ℕ
with_destination None destination chosen = chosen
with_destination (Some place) destination chosen = with_changed (λ (_ : ℕ). destination) chosen place

abbrev pub IsExpiry : Net → List Class → HolderName → Course → Course → Type 0
IsExpiry net classes name from to =
    Makes (λ a b. (place : ℕ) × LeastExpires net classes from.packets from.chosen name place a b) from to

abbrev pub AreArrivals : Net → ℕ → Course → Course → Type 0
AreArrivals net zero from to = ⊥
AreArrivals net (suc link) from to = Makes (Repeated (Arrives net from.chosen link)) from to

-- the effect of the action that a line requests
abbrev pub IsRow : NetworkDocument → List Class → Action → Course → Course → Type 0
IsRow network classes action.Next from to = (packet : Packet)
    × Reads (net_of network) classes action.Next packet from to
IsRow network classes (action.NextOf class path) from to = (packet : Packet)
    × Reads (net_of network) classes (action.NextOf class path) packet from to
IsRow network classes (action.Expire device cache) from to =
    IsExpiry (net_of network) classes (holder.Cache device cache) from to
IsRow network classes (action.Emit device process aggregation) from to =
    IsExpiry (net_of network) classes (holder.Aggregation device process aggregation) from to
IsRow network classes (action.Carry link n) from to = AreArrivals (net_of network) link from to
IsRow network classes (action.Use device exporter destination) from to =
    to ≡ record from { chosen = with_destination (exporter_place network device exporter) destination from.chosen }

-- the lines of a schedule, in order
abbrev pub AreRows : NetworkDocument → List Class → List (List ℕ) → Course → Course → Type 0
AreRows network classes [] from to = to ≡ from
AreRows network classes (line ∷ lines) from to =
    (asked : Action) × (mid : Course) × AsksFor line asked × IsRow network classes asked from mid
    × AreRows network classes lines mid to

-- ---- the closing phase

-- the remaining packets are read in order, as by `next`
abbrev pub AllCome : Net → List Class → List Packet → Course → Course → Type 0
AllCome net classes [] from to = to ≡ from
AllCome net classes (packet ∷ packets) from to =
    (mid : Course) × Reads net classes action.Next packet from mid × AllCome net classes packets mid to

-- records leave the holder at a place, each time the one of the least key
abbrev pub IsEmptied : Net → List Class → List Packet → List ℕ → ℕ → Row
IsEmptied net classes packets chosen place =
    Repeated (λ from to. (name : HolderName) × LeastExpires net classes packets chosen name place from to)

-- records of a link arrive, if it leads to the process
abbrev pub ArriveIf : Bool → Net → List ℕ → ℕ → Row
ArriveIf true net chosen link = Repeated (Arrives net chosen link)
ArriveIf false net chosen link = NoStep

-- a collecting process is finished: the links into it are carried, in order, and then its aggregations are emptied
abbrev pub IsFinished : Net → List Class → List Packet → List ℕ → ℕ → Row
IsFinished net classes packets chosen process =
    Followed (InTurn (λ link. ArriveIf (leads_to (slice_get net.links link) process) net chosen link) (link_places net))
    (InTurn (IsEmptied net classes packets chosen) (holders_of (slice_get net.processes process)))

-- all caches are emptied, in document order, and then the collecting processes are finished, in this order
abbrev pub IsEmptying : Net → List Class → List Packet → List ℕ → List ℕ → Row
IsEmptying net classes packets chosen ranked =
    Followed (InTurn (IsEmptied net classes packets chosen) (caches_of_all net))
    (InTurn (IsFinished net classes packets chosen) ranked)

-- the remaining packets are read, and then all holders are emptied
abbrev pub IsClosing : Net → List Class → List ℕ → List Packet → Course → Course → Type 0
IsClosing net classes ranked left from to =
    (mid : Course) × AllCome net classes left from mid
    × Makes (IsEmptying net classes mid.packets mid.chosen ranked) mid to

-- a run before anything is read: each exporting process uses its first destination
abbrev pub first_course : Net → Course
first_course net = record { chosen = first_chosen net.exporters; packets = []; steps = [] }
