-- A running network between calls, seen as a state of the abstract network, and how calls change that state.
use Rattle.std.specs.Prelude.{◌≡◌, ℕ, List, [], ◌∷◌, ◌++◌}
use Rattle.fx_tables.specs.declared.packet.Packet.{Packet}
use Rattle.fx_tables.specs.Classes.{Class}
use Rattle.fx_tables.specs.Network.{Net}
use Rattle.fx_machine.specs.States.{State, Complete, opening}
use Rattle.fx_link.specs.Links.{Put}
use Rattle.fx_pcap.specs.Captures as captures
use Rattle.fx_topology.specs.declared.network.NetworkDocument.{NetworkDocument}
use Rattle.fx_ranks.specs.Ranks.{IsWhole}
use Rattle.fx_plan.specs.Tables.{net_of}
use Rattle.fx_net.specs.Contents.{Contents}
use Rattle.fx_net.specs.Opening.{opening_contents}
use Rattle.fx_net.specs.Running.{Closes, GoesOnToFrames, Obeys, RunningNetwork}
use Rattle.fx_conform.specs.Conforming.{Conforms, IsSound}
use Rattle.fx_conform.specs.Rows.{AreRows, Course, IsClosing, first_course}
use Rattle.fx_conform.specs.Whole.{AreOf, HavePaths}

-- the network is seen as the state that a run has reached, with the same destinations in use
pub record IsSeenAs (net : Net) (classes : List Class) (begin put : Put) (c : Contents) (course : Course) (s : State) :
    Type 0 where
  pub chosen_are : c.chosen ≡ course.chosen
  pub conforms : Conforms net classes begin put c course.packets course.steps s

-- The capture advances over some frames, whose packets are the run's next ones. The run proceeds as the rows say, to
-- the
-- state as which the network is then seen.
pub record GoesOn (net : Net) (classes : List Class) (begin : Put) (rows : Course → Course → Type 0) (from : Course)
    (at to : captures.CaptureState) (put : Put) (c : Contents) : Type 0 where
  pub frames : List captures.Seen
  pub goes_on : GoesOnToFrames at to frames
  pub read : List Packet
  pub are_of : AreOf classes frames read
  pub course : Course
  pub packets_are : course.packets ≡ from.packets ++ read
  pub rows_are : rows from course
  pub state : State
  pub seen : IsSeenAs net classes begin put c course state

-- The run goes on to the capture's end, through the closing phase, and is then complete.
pub record GoesToEnd (net : Net) (classes : List Class) (begin : Put) (from : Course) (at to : captures.CaptureState)
    (put : Put) (c : Contents) : Type 0 where
  pub last : captures.CaptureState
  pub end : captures.AtCaptureEnd last to
  pub ranked : List ℕ
  pub whole : IsWhole net ranked
  pub left : List Packet
  pub goes : GoesOn net classes begin (IsClosing net classes ranked left) from at last put c
  pub complete : Complete goes.state

-- ---- the laws

-- A newly opened network is seen as an abstract network before any step.
abbrev pub OpeningConforms : Type 0
OpeningConforms =
    (network : NetworkDocument) (classes : List Class) (put : Put)
    → IsSound (net_of network)
    → IsSeenAs (net_of network) classes put put (opening_contents network) (first_course (net_of network))
    (opening (net_of network) classes [])

-- A line that is obeyed changes the state by its row.
abbrev pub LinesAreRows : Type 0
LinesAreRows =
    (line : List ℕ) (old new : RunningNetwork) (at to : captures.CaptureState) (begin before after : Put)
    (from : Course) (s : State)
    → IsSound (net_of old.network) → HavePaths old.classes
    → IsSeenAs (net_of old.network) old.classes begin before old.contents from s → Obeys line old new at to before after
    → GoesOn (net_of old.network) old.classes begin (AreRows old.network old.classes (line ∷ [])) from at to after
    new.contents

-- The closing phase changes the state by its rows, and completes the run.
abbrev pub ClosingsAreRows : Type 0
ClosingsAreRows =
    (old new : RunningNetwork) (at to : captures.CaptureState) (begin before after : Put) (from : Course) (s : State)
    → IsSound (net_of old.network) → HavePaths old.classes
    → IsSeenAs (net_of old.network) old.classes begin before old.contents from s → Closes old new at to before after
    → GoesToEnd (net_of old.network) old.classes begin from at to after new.contents
