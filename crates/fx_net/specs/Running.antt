-- A running network as its calls see it.
use Rattle.std.specs.Prelude.{◌≡◌, ◌⊎◌, ℕ, zero, suc, ◌<◌, Bool, true, false, ◌&&◌, is_some, List, [], ◌∷◌, length, slice_get, position, Option, Some, None, IfSome, Result, Err}
use Rattle.fx_base.specs.declared.fault.Fault.{Fault}
use Rattle.fx_base.specs.declared.fault.Place.{Place}
use Rattle.fx_base.specs.declared.fault.Place.TheVariants as places
use Rattle.fx_base.specs.Fault.{fault_at}
use Rattle.fx_base.specs.Lines.{Lines, AtLine, AtTextEnd, RefusesText}
use Rattle.fx_elements.specs.Axes.{Fields}
use Rattle.fx_boxes.specs.Boxes.{holds}
use Rattle.fx_tables.specs.declared.packet.Packet.{Packet}
use Rattle.fx_tables.specs.declared.holder_name.HolderName.{HolderName}
use Rattle.fx_tables.specs.declared.holder_name.HolderName.TheVariants as holder
use Rattle.fx_tables.specs.Network.{Exporter, holder_place}
use Rattle.fx_base.specs.Entries.{entry_numbered}
use Rattle.fx_base.specs.Refusals.{failed_write, in_no_class, not_in_named_class, nothing_there, schedule_or_bundle, want_of_memory}
use Rattle.fx_tables.specs.Classes.{Class}
use Rattle.fx_link.specs.Links.{Put}
use Rattle.fx_collect.specs.Totals.{Totals}
use Rattle.fx_pcap.specs.Captures as captures
use Rattle.fx_topology.specs.declared.network.NetworkDocument.{NetworkDocument}
use Rattle.fx_plan.specs.Tables.{net_of}
use Rattle.fx_plan.specs.ExporterPlaces.{exporter_place}
use Rattle.fx_net.specs.declared.action.Action.{Action}
use Rattle.fx_net.specs.declared.action.Action.TheVariants as action
use Rattle.fx_net.specs.declared.stop.Stop.{Stop}
use Rattle.fx_net.specs.declared.stop.Stop.TheVariants as stop
use Rattle.fx_net.specs.Schedule.{AsksFor}
use Rattle.fx_net.specs.Contents.{Contents}
use Rattle.fx_net.specs.Opening.{opening_contents}
use Rattle.fx_net.specs.Leaving.{least_at}
use Rattle.fx_net.specs.Arriving.{queued_on}
use Rattle.fx_ranks.specs.Ranks.{IsWhole}
use Rattle.fx_net.specs.Doings.{DoesAction, ReadsFrame, EmptiesNetwork, Ended, reads_packet}

pub record RunningNetwork : Type 0 where
  pub network : NetworkDocument
  pub classes : List Class
  pub contents : Contents
  -- the fault that the network reports from now on
  pub fault : Option Fault

-- ---- faults that are reported again

abbrev pub fault_of : Stop → Fault
fault_of (stop.Bare number) = fault_at number places.None
fault_of (stop.Line number line) = fault_at number (places.Line line)
fault_of (stop.Octet number octet) = fault_at number (places.Octet octet)

-- a place that is a text isn't kept
abbrev pub stop_at : ℕ → Place → Stop
stop_at number places.None = stop.Bare number
stop_at number (places.Line line) = stop.Line number line
stop_at number (places.Octet octet) = stop.Octet number octet
stop_at number (places.Text text) = stop.Bare number

abbrev pub stop_of : Fault → Stop
stop_of e = stop_at e.number e.place

-- ---- a packet's class and path

-- whether the class of this number exists and contains these fields, and has a path of this number
abbrev pub is_in_class : Option Class → Fields → ℕ → Bool
is_in_class None fields path = false
is_in_class (Some c) fields path = holds c.region fields && is_some (entry_numbered c.paths path)

abbrev pub is_in : List Class → Fields → ℕ → ℕ → Bool
is_in classes fields class path = is_in_class (entry_numbered classes class) fields path

-- ---- obeying a line

-- the next frame of the capture, if the line reads one; otherwise the capture is unchanged
abbrev pub GoesTo : Bool → captures.CaptureState → captures.CaptureState → Option captures.Seen → Type 0
GoesTo true old new frame = captures.AtFrame old new × (frame ≡ Some new.seen)
GoesTo false old new frame = new ≡ old

-- the packet of a frame, with this class and this path
abbrev pub packet_of : captures.Seen → ℕ → ℕ → Packet
packet_of frame class path = record { fields = frame.fields; octets = frame.octets; class = class; path = path }

-- The requested action is done; the records that it puts on links wait there.
pub record Acts (asked : Action) (old new : RunningNetwork) (at to : captures.CaptureState) : Type 0 where
  pub frame : Option captures.Seen
  pub goes : GoesTo (reads_packet asked) at to frame
  pub does : DoesAction old.network old.classes frame asked old.contents new.contents
  pub rest : new ≡ record old { contents = new.contents }

-- The line requests an action, which is done.
pub record Obeys (line : List ℕ) (old new : RunningNetwork) (at to : captures.CaptureState) (before after : Put) : Type
    0 where
  pub asked : Action
  pub asks : AsksFor line asked
  pub frame : Option captures.Seen
  pub goes : GoesTo (reads_packet asked) at to frame
  pub does : Ended (DoesAction old.network old.classes frame asked) before old.contents after new.contents
  pub rest : new ≡ record old { contents = new.contents }

-- ---- why a line is refused

abbrev pub HoldsNothing : RunningNetwork → HolderName → Type 0
HoldsNothing old name = (place : ℕ) → holder_place (net_of old.network) name ≡ Some place → least_at old.contents place
    ≡ None

-- the link doesn't exist, or fewer octets wait on it
abbrev pub HasTooFew : Contents → ℕ → ℕ → Type 0
HasTooFew c zero octets = Unit {0}
HasTooFew c (suc link) octets = link < length c.links → queued_on (slice_get c.links link) < octets

abbrev pub HasNoDestination : NetworkDocument → ℕ → ℕ → ℕ → Type 0
HasNoDestination network device exporter destination =
    (place : ℕ) (e : Exporter) → exporter_place network device exporter ≡ Some place
    → slice_get (net_of network).exporters place ≡ Some e → entry_numbered e.destinations destination ≡ None

-- a number that names nothing, a holder that holds nothing, too few octets, or no packet; a line that reads no packet
-- leaves the capture unchanged
abbrev pub NamesNothing : RunningNetwork → captures.CaptureState → captures.CaptureState → Action → Type 0
NamesNothing old at to action.Next = captures.AtCaptureEnd at to
NamesNothing old at to (action.NextOf class path) = captures.AtCaptureEnd at to
NamesNothing old at to (action.Expire device cache) = HoldsNothing old (holder.Cache device cache) × (to ≡ at)
NamesNothing old at to (action.Emit device process aggregation) =
    HoldsNothing old (holder.Aggregation device process aggregation) × (to ≡ at)
NamesNothing old at to (action.Carry link octets) = HasTooFew old.contents link octets × (to ≡ at)
NamesNothing old at to (action.Use device exporter destination) =
    HasNoDestination old.network device exporter destination × (to ≡ at)

-- the class and the path that a line names aren't those of the packet
abbrev pub IsNotIn : List Class → captures.Seen → Action → Type 0
IsNotIn classes frame (action.NextOf class path) =
    (c : Class) → entry_numbered classes class ≡ Some c → holds c.region frame.fields ≡ true
    → entry_numbered c.paths path ≡ None
IsNotIn classes frame _ = ⊥

-- no class contains the packet
abbrev pub IsOfNone : List Class → captures.Seen → Type 0
IsOfNone classes frame = position (λ (c : Class). holds c.region frame.fields) classes ≡ None

abbrev pub IsInNone : List Class → captures.Seen → Action → Type 0
IsInNone classes frame action.Next = IsOfNone classes frame
IsInNone classes frame _ = ⊥

-- 802 or the fault of a capture's record takes precedence over 803 and 804; each fault is placed at the schedule's line
pub data RefusesAction (old : RunningNetwork) (at to : captures.CaptureState) (number : ℕ) (asked : Action)
    (e : Fault) : Type 0 where
  nothing_named : e ≡ fault_at nothing_there (places.Line number) → NamesNothing old at to asked
      → RefusesAction old at to number asked e
  capture_refused : reads_packet asked ≡ true → captures.RefusesCapture at to e → RefusesAction old at to number asked e
  not_in : e ≡ fault_at not_in_named_class (places.Line number) → captures.AtFrame at to
      → IsNotIn old.classes to.seen asked → RefusesAction old at to number asked e
  in_none : e ≡ fault_at in_no_class (places.Line number) → captures.AtFrame at to → IsInNone old.classes to.seen asked
      → RefusesAction old at to number asked e

-- 801 takes precedence over the others, and leaves the capture unchanged
abbrev pub RefusesLine : List ℕ → ℕ → RunningNetwork → captures.CaptureState → captures.CaptureState → Fault → Type 0
RefusesLine line number old at to e =
    ((e ≡ fault_at schedule_or_bundle (places.Line number)) × ((asked : Action) → AsksFor line asked → ⊥) × (to ≡ at))
    ⊎ ((asked : Action) × AsksFor line asked × RefusesAction old at to number asked e)

-- out of memory, or failure to write octets of links, whatever the line
abbrev pub FailsOutside : Bool → Fault → Type 0
FailsOutside failed e = (e ≡ fault_at want_of_memory places.None)
    ⊎ ((e ≡ fault_at failed_write places.None) × (failed ≡ true))

-- a network that has reported a fault reports it again, and nothing changes
abbrev pub AnswersAgain : RunningNetwork → RunningNetwork → Result (Unit {0}) Fault → Type 0
AnswersAgain old new result = IfSome old.fault (λ e. (result ≡ Err e) × (new ≡ old))

-- if a network has reported a fault, the capture and the links are unchanged
abbrev pub LeavesBoth : {L : Type 0} → RunningNetwork → captures.CaptureState → captures.CaptureState → L → L → Type 0
LeavesBoth old at to before after = IfSome old.fault (λ _. (to ≡ at) × (after ≡ before))

-- ---- the closing phase

-- the packet of a frame is read, with path 1 of the first class that contains it
pub record ReadsOne (old new : RunningNetwork) (frame : captures.Seen) (before after : Put) : Type 0 where
  pub done : Ended (ReadsFrame (net_of old.network) old.classes action.Next frame) before old.contents after
      new.contents
  pub rest : new ≡ record old { contents = new.contents }

-- the packets of these frames are read in order, as the reader of a capture advances
abbrev pub ReadsFrames : List captures.Seen → RunningNetwork → RunningNetwork → captures.CaptureState
    → captures.CaptureState → Put → Put → Type 0
ReadsFrames [] old new at to before after = (new ≡ old) × (to ≡ at) × (after ≡ before)
ReadsFrames (frame ∷ frames) old new at to before after =
    (mid : RunningNetwork) × (on : captures.CaptureState) × (put : Put)
    × captures.AtFrame at on × (on.seen ≡ frame) × ReadsOne old mid frame before put
    × ReadsFrames frames mid new on to put after

-- the packets of some frames are read
pub record HasRead (old new : RunningNetwork) (at to : captures.CaptureState) (before after : Put) : Type 0 where
  pub frames : List captures.Seen
  pub read : ReadsFrames frames old new at to before after

-- the remaining packets are read
pub record ReadsRest (old new : RunningNetwork) (at to : captures.CaptureState) (before after : Put) : Type 0 where
  pub last : captures.CaptureState
  pub read : HasRead old new at last before after
  pub end : captures.AtCaptureEnd last to

-- The closing phase: the remaining packets are read, all caches are emptied in document order, and then the collecting
-- processes are finished in the order of their ranks.
pub record Closes (old new : RunningNetwork) (at to : captures.CaptureState) (before after : Put) : Type 0 where
  pub mid : RunningNetwork
  pub put : Put
  pub reads : ReadsRest old mid at to before put
  pub ranked : List ℕ
  pub whole : IsWhole (net_of old.network) ranked
  pub empties : EmptiesNetwork (net_of old.network) ranked put mid.contents after new.contents
  pub rest : new ≡ record old { contents = new.contents }

-- the reader of a capture has advanced over these frames
abbrev pub GoesOnToFrames : captures.CaptureState → captures.CaptureState → List captures.Seen → Type 0
GoesOnToFrames at to [] = to ≡ at
GoesOnToFrames at to (frame ∷ frames) = (on : captures.CaptureState) × captures.AtFrame at on × (on.seen ≡ frame)
    × GoesOnToFrames on to frames

abbrev pub HasGoneOn : captures.CaptureState → captures.CaptureState → Type 0
HasGoneOn at to = (frames : List captures.Seen) × GoesOnToFrames at to frames

-- a remaining frame is in no class, or the capture is refused after some frames
pub data RefusesClose (old : RunningNetwork) (at to : captures.CaptureState) (e : Fault) : Type 0 where
  capture_cut : (mid : captures.CaptureState) → HasGoneOn at mid → captures.RefusesCapture mid to e
      → RefusesClose old at to e
  none_holds : (mid : captures.CaptureState) → e ≡ fault_at in_no_class places.None → HasGoneOn at mid
      → captures.AtFrame mid to → IsOfNone old.classes to.seen → RefusesClose old at to e

-- ---- a whole run

-- the lines of a schedule are obeyed in order, as the reader of the schedule advances
abbrev pub ObeysLines : List (List ℕ) → RunningNetwork → RunningNetwork → captures.CaptureState → captures.CaptureState
    → Lines → Lines → Put → Put → Type 0
ObeysLines [] old new at to from last before after = (new ≡ old) × (to ≡ at) × (last ≡ from) × (after ≡ before)
ObeysLines (line ∷ lines) old new at to from last before after =
    (mid : RunningNetwork) × (on : captures.CaptureState) × (next : Lines) × (put : Put)
    × AtLine from next × (next.line ≡ line) × Obeys line old mid at on before put
    × ObeysLines lines mid new on to next last put after

-- some lines are obeyed
pub record HasObeyed (old new : RunningNetwork) (at to : captures.CaptureState) (from last : Lines)
    (before after : Put) : Type 0 where
  pub lines : List (List ℕ)
  pub obeyed : ObeysLines lines old new at to from last before after

-- all lines of the schedule are obeyed
pub record ObeysAll (old new : RunningNetwork) (at to : captures.CaptureState) (from last : Lines)
    (before after : Put) : Type 0 where
  pub behind : Lines
  pub obeyed : HasObeyed old new at to from behind before after
  pub end : AtTextEnd behind last

-- all lines of the schedule are obeyed, and then the closing phase is done
pub record RunsSchedule (old new : RunningNetwork) (at to : captures.CaptureState) (from last : Lines)
    (before after : Put) : Type 0 where
  pub mid : RunningNetwork
  pub on : captures.CaptureState
  pub put : Put
  pub obeys : ObeysAll old mid at on from last before put
  pub closes : Closes mid new on to put after

-- a network before anything is read
abbrev pub begun : NetworkDocument → List Class → RunningNetwork
begun network classes = record {
  network = network;
  classes = classes;
  contents = opening_contents network;
  fault =
      None;
}

-- a run ends with these totals
pub record RunsTo (old : RunningNetwork) (at to : captures.CaptureState) (from last : Lines) (before after : Put)
    (totals : Totals) : Type 0 where
  pub new : RunningNetwork
  pub runs : RunsSchedule old new at to from last before after
  pub totals_are : totals ≡ new.contents.totals

-- a line of the schedule is refused, or the schedule itself, or what remains for the closing phase
pub data RefusesRun (old : RunningNetwork) (at to : captures.CaptureState) (from last : Lines) (before : Put)
    (e : Fault) : Type 0 where
  line_refused : (mid : RunningNetwork) (on : captures.CaptureState) (behind : Lines) (put : Put)
      → HasObeyed old mid at on from behind before put
      → AtLine behind last → RefusesLine last.line last.number mid on to e → RefusesRun old at to from last before e
  not_read : (mid : RunningNetwork) (behind : Lines) (put : Put) → HasObeyed old mid at to from behind before put
      → RefusesText behind last e → RefusesRun old at to from last before e
  rest_refused : (mid : RunningNetwork) (on : captures.CaptureState) (behind : Lines) (put : Put)
      → HasObeyed old mid at on from behind before put
      → AtTextEnd behind last → RefusesClose mid on to e → RefusesRun old at to from last before e
