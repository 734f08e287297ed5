-- A whole run of a running network, as a complete run of the abstract one.
use Rattle.std.specs.Prelude.{◌≡◌, ℕ, suc, ◌<◌, List, [], ◌∷◌, length, Ok, All, option_map}
use Rattle.serde_json.specs.Data.{Data}
use Rattle.fx_base.specs.Device.{Writes}
use Rattle.fx_base.specs.Lines.{Lines, AtLine, AtTextEnd as LinesEnd}
use Rattle.fx_layout.specs.Keys.{Key}
use Rattle.fx_tables.specs.declared.packet.Packet.{Packet}
use Rattle.fx_run_text.specs.declared.step.Step.{Step}
use Rattle.fx_tables.specs.Network.{Net}
use Rattle.fx_base.specs.Entries.{entry_numbered}
use Rattle.fx_tables.specs.Classes.{Class, IsOf, to_count}
use Rattle.fx_machine.specs.Claim.{ExactlyOnce, OnceModulo, counts_modulo}
use Rattle.fx_machine.specs.States.{State, Complete, opening, wrapped_state}
use Rattle.fx_machine.specs.Steps.{run}
use Rattle.fx_machine.specs.Sums.{SumsFit, plain_sum, total_at}
use Rattle.fx_collect.specs.Totals.{Totals, totals_in}
use Rattle.fx_link.specs.Links.{Put}
use Rattle.fx_pcap.specs.Captures as captures
use Rattle.fx_topology.specs.declared.network.NetworkDocument.{NetworkDocument}
use Rattle.fx_ranks.specs.Ranks.{IsWhole}
use Rattle.fx_plan.specs.Tables.{net_of}
use Rattle.fx_traffic.specs.Classes.{traffic_faults, traffic_of}
use Rattle.fx_net.specs.Doings.{IsFrame}
use Rattle.fx_net.specs.Running.{RunsTo, begun, GoesOnToFrames}
use Rattle.fx_conform.specs.Conforming.{IsSound, put_by_run}
use Rattle.fx_conform.specs.OnLinks.{AreRead}
use Rattle.fx_conform.specs.Rows.{AreRows, Course, IsClosing, first_course}

-- each frame has its packet, which is in its class and on one of the paths of that class
abbrev pub AreOf : List Class → List captures.Seen → List Packet → Type 0
AreOf classes [] [] = Unit {0}
AreOf classes (frame ∷ frames) (p ∷ packets) = IsFrame p frame × IsOf p (entry_numbered classes p.class)
    × AreOf classes frames packets
AreOf classes [] (p ∷ packets) = ⊥
AreOf classes (frame ∷ frames) [] = ⊥

-- the octets put on a link are read as exactly the records that the run has put on it, in the order of its steps
abbrev pub IsReadOn : Net → List Class → List Packet → List Step → Put → Put → ℕ → Type 0
IsReadOn net classes packets steps before after link =
    (octets : List ℕ) × Writes (before (suc link)) (after (suc link)) octets
    × AreRead octets (put_by_run net classes packets steps link)

-- a reader of lines reads these lines next
abbrev pub ReadsLines : Lines → Lines → List (List ℕ) → Type 0
ReadsLines from to [] = to ≡ from
ReadsLines from to (line ∷ lines) = (next : Lines) × AtLine from next × (next.line ≡ line) × ReadsLines next to lines

-- the packets and steps of a run are those of the schedule's lines, followed by those of the closing phase
pub record AreInOrder (network : NetworkDocument) (classes : List Class) (from to : Lines) (course : Course) : Type 0
  where
    pub lines : List (List ℕ)
    pub behind : Lines
    pub read : ReadsLines from behind lines
    pub end : LinesEnd behind to
    pub mid : Course
    pub rows : AreRows network classes lines (first_course (net_of network)) mid
    pub ranked : List ℕ
    pub whole : IsWhole (net_of network) ranked
    pub left : List Packet
    pub closing : IsClosing (net_of network) classes ranked left mid course

-- The capture's frames in order are the packets of a complete run, whose steps are those of the schedule's lines and
-- then of the closing phase. The totals are that run's, and the octets on each link are its records.
pub record IsRunOf (network : NetworkDocument) (classes : List Class) (at to : captures.CaptureState)
    (from_line to_line : Lines) (before after : Put) (totals : Totals) : Type 0 where
  pub frames : List captures.Seen
  pub last : captures.CaptureState
  pub goes_on : GoesOnToFrames at last frames
  pub end : captures.AtCaptureEnd last to
  pub course : Course
  pub are_of : AreOf classes frames course.packets
  pub final : State
  pub run_is : run (net_of network) classes course.packets course.steps
      (opening (net_of network) classes course.packets) ≡ Ok final
  pub complete : Complete final
  pub in_order : AreInOrder network classes from_line to_line course
  pub totals_are : totals ≡ totals_in (net_of network).report_layout (wrapped_state final)
  pub read : (link : ℕ) → link < length (net_of network).links
      → IsReadOn (net_of network) classes course.packets course.steps before after link

-- each class has a path
abbrev pub HavePaths : List Class → Type 0
HavePaths classes = All (λ (c : Class). 0 < length c.paths) classes

-- ---- the laws

-- The classes of a declaration without a fault have paths.
abbrev pub DeclarationsHavePaths : Type 0
DeclarationsHavePaths =
    (devices : List (List ℕ)) (up : List ℕ) (d : Data) → traffic_faults devices up d ≡ []
    → HavePaths (traffic_of devices d)

-- If a running network yields totals, there is such a run.
abbrev pub RunsAreComplete : Type 0
RunsAreComplete =
    (network : NetworkDocument) (classes : List Class) (at to : captures.CaptureState) (from last : Lines)
    (before after : Put) (totals : Totals)
    → IsSound (net_of network) → HavePaths classes
    → RunsTo (begun network classes) at to from last before after totals
    → IsRunOf network classes at to from last before after totals

-- the totals are the plain sums over these packets, and nothing is unassigned
pub record ArePlainSums (net : Net) (packets : List Packet) (totals : Totals) : Type 0 where
  pub sums : (key : Key) → total_at totals.entries key ≡ plain_sum net.report_layout key packets
  pub assigned : totals.unassigned ≡ 0

-- The totals of a network that counts each packet once are the plain sums over its packets, if these sums fit in 64
-- bits.
abbrev pub TotalsArePlainSums : Type 0
TotalsArePlainSums =
    (network : NetworkDocument) (classes : List Class) (at to : captures.CaptureState) (from last : Lines)
    (before after : Put) (totals : Totals)
    (of_run : IsRunOf network classes at to from last before after totals)
    → ExactlyOnce (net_of network) classes → SumsFit (net_of network).report_layout
    (to_count classes of_run.course.packets)
    → ArePlainSums (net_of network) (to_count classes of_run.course.packets) totals

-- the totals are the plain sums over these packets modulo 2 to the 64, and nothing is unassigned
pub record AreSumsModulo (net : Net) (packets : List Packet) (totals : Totals) : Type 0 where
  pub sums : (key : Key) → option_map counts_modulo (total_at totals.entries key)
      ≡ option_map counts_modulo (plain_sum net.report_layout key packets)
  pub assigned : totals.unassigned ≡ 0

-- The totals are these sums modulo 2 to the 64, however large the sums are.
abbrev pub TotalsAreSumsModulo : Type 0
TotalsAreSumsModulo =
    (network : NetworkDocument) (classes : List Class) (at to : captures.CaptureState) (from last : Lines)
    (before after : Put) (totals : Totals)
    (of_run : IsRunOf network classes at to from last before after totals)
    → OnceModulo (net_of network) classes → AreSumsModulo (net_of network) (to_count classes of_run.course.packets)
    totals
