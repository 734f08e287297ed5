-- What commands compute from octets.
use Rattle.std.specs.Prelude.{◌≡◌, ◌⊎◌, ℕ, ◌≤◌, ◌^◌, List, length, Ok, Err}
use Rattle.fx_base.specs.declared.fault.Fault.{Fault}
use Rattle.fx_base.specs.declared.fault.Place.TheVariants as places
use Rattle.fx_base.specs.Fault.{fault_at}
use Rattle.fx_base.specs.Lines.{Lines, lines_in}
use Rattle.fx_base.specs.Refusals.{failed_read, schedule_or_bundle}
use Rattle.fx_tables.specs.Classes.{Class}
use Rattle.fx_run_text.specs.RunText.{Run}
use Rattle.fx_run_text.specs.RunReading.{MayReadRun}
use Rattle.fx_machine.specs.States.{State, opening, wrapped_state}
use Rattle.fx_machine.specs.Steps.{run}
use Rattle.fx_check.specs.FirstRefusal.{line_limit}
use Rattle.fx_topology.specs.declared.network.NetworkDocument.{NetworkDocument}
use Rattle.fx_plan.specs.Tables.{net_of}
use Rattle.fx_checker.specs.declared.answer.Answer.{Answer}
use Rattle.fx_checker.specs.declared.answer.Answer.TheVariants.{Yes}
use Rattle.fx_audit.specs.Audits.{IsAuditedIn}
use Rattle.fx_audit.specs.Bundle.{IsBundle}
use Rattle.fx_audit.specs.Confirms.{IsConfirmedIn, IsRefusedOtherwise}
use Rattle.fx_audit.specs.declared.bundle.Command.{Command}
use Rattle.fx_audit.specs.declared.bundle.Command.TheVariants.{Audit, Replay, Check, Confirm}
use Rattle.fx_checker.specs.Documents.{InDocuments, IsNetworkDocument, IsRefusedByDocuments, IsRefusedIn, IsRefusedNetwork}
use Rattle.fx_audit.specs.Replay.{IsRefused, IsTextOf}
use Rattle.fx_audit.specs.Texts.{ok_line}
use Rattle.fx_audit.specs.Streams.{IsRefusedStream, IsStreamText, EndsWithMessage, stream_read}
use Rattle.fx_checker.specs.Checks.{IsChecked, IsRefusedCheck}

-- ---- a network that is linted

-- the text that is printed for the document of a network
pub record IsLinted (network_octets text : List ℕ) : Type 0 where
  pub network : NetworkDocument
  pub network_is : IsNetworkDocument network_octets network
  pub text_is : text ≡ ok_line

-- the text that is printed for the documents of a network and of its traffic
abbrev pub AreLinted : List ℕ → List ℕ → List ℕ → Type 0
AreLinted network_octets traffic_octets text =
    InDocuments (λ network classes. text ≡ ok_line) network_octets traffic_octets

-- ---- a run that is replayed

-- the text that a replay in this network and traffic prints: the text of the run's last state
pub record IsReplayedIn (network : NetworkDocument) (classes : List Class) (lines : Lines) (text : List ℕ) : Type 0
  where
    pub run_read : Run
    pub last : State
    pub run_is : MayReadRun classes lines (Ok run_read)
    pub steps : run (net_of network) classes run_read.packets run_read.steps
        (opening (net_of network) classes run_read.packets) ≡ Ok last
    pub text_is : IsTextOf (net_of network).report_layout (wrapped_state last) text

-- the text that a replay prints in the network and traffic that two documents declare
abbrev pub IsReplayed : List ℕ → List ℕ → Lines → List ℕ → Type 0
IsReplayed network_octets traffic_octets lines text =
    InDocuments (λ network classes. IsReplayedIn network classes lines text) network_octets traffic_octets

-- the text of the run is refused in this network and traffic, or the run itself is
abbrev pub IsRefusedRun : NetworkDocument → List Class → Lines → Fault → Type 0
IsRefusedRun network classes lines e =
    MayReadRun classes lines (Err e) ⊎ ((r : Run) × MayReadRun classes lines (Ok r)
    × IsRefused (net_of network) classes r e)

-- the first refusal of a replay: that of the documents, otherwise that of the run
abbrev pub IsRefusedReplay : List ℕ → List ℕ → Lines → Fault → Type 0
IsRefusedReplay network_octets traffic_octets lines e =
    IsRefusedIn (λ network classes. IsRefusedRun network classes lines e) network_octets traffic_octets e

-- ---- a stream that is collected

-- the text that results from a stream under the report of the network that a document declares; no message is cut off
pub record IsCollected (network_octets stream_octets text : List ℕ) : Type 0 where
  pub network : NetworkDocument
  pub network_is : IsNetworkDocument network_octets network
  pub whole : EndsWithMessage (stream_read stream_octets)
  pub text_is : IsStreamText (net_of network).report_layout (stream_read stream_octets).known text

-- the first refusal of a collection: that of the network's document, otherwise that of the stream
abbrev pub IsRefusedCollect : List ℕ → List ℕ → Fault → Type 0
IsRefusedCollect network_octets stream_octets e =
    IsRefusedNetwork network_octets e
    ⊎ ((network : NetworkDocument) × IsNetworkDocument network_octets network
    × IsRefusedStream (stream_read stream_octets) e)

-- ---- a certificate that is checked

-- ---- a refutation that is confirmed

-- the answer for a refutation in the network and traffic that two documents declare
abbrev pub IsConfirmed : List ℕ → List ℕ → Lines → Answer → List ℕ → Type 0
IsConfirmed network_octets traffic_octets lines answer text =
    InDocuments (λ network classes. IsConfirmedIn network classes lines answer text) network_octets traffic_octets

-- the first refusal of a confirmation that isn't an answer: that of the documents, otherwise that of the refutation
abbrev pub IsRefusedConfirm : List ℕ → List ℕ → Lines → Fault → Type 0
IsRefusedConfirm network_octets traffic_octets lines e =
    IsRefusedIn (λ network classes. IsRefusedOtherwise network classes lines e) network_octets traffic_octets e

-- ---- an audit

-- the answer of an audit of the network and traffic that two documents declare
abbrev pub IsAudited : List ℕ → List ℕ → ℕ → Answer → List ℕ → Type 0
IsAudited network_octets traffic_octets limit answer text =
    InDocuments (λ network classes. IsAuditedIn network classes limit answer text) network_octets traffic_octets

-- ---- a bundle

-- what a command answers, and the text that it prints; an audit in a bundle searches up to the greatest size of a
-- certificate
abbrev pub IsDone : Command → List ℕ → List ℕ → Lines → Answer → List ℕ → Type 0
IsDone Replay network traffic lines answer text = (answer ≡ Yes) × IsReplayed network traffic lines text
IsDone Check network traffic lines answer text = IsChecked network traffic lines answer text
IsDone Confirm network traffic lines answer text = IsConfirmed network traffic lines answer text
IsDone Audit network traffic lines answer text = IsAudited network traffic line_limit answer text

-- the command refuses these octets
abbrev pub IsRefusedBy : Command → List ℕ → List ℕ → Lines → Fault → Type 0
IsRefusedBy Replay network traffic lines e = IsRefusedReplay network traffic lines e
IsRefusedBy Check network traffic lines e = IsRefusedCheck network traffic lines e
IsRefusedBy Confirm network traffic lines e = IsRefusedConfirm network traffic lines e
IsRefusedBy Audit network traffic lines e = IsRefusedByDocuments network traffic e

-- a text is so long that 2 to the 32 calls don't read it to its end
abbrev pub IsEndless : List ℕ → List ℕ → List ℕ → Fault → Type 0
IsEndless network traffic third e =
    (e ≡ fault_at failed_read places.None) × ((2 ^ 32 ≤ length network)
    ⊎ ((2 ^ 32 ≤ length traffic) ⊎ (2 ^ 32 ≤ length third)))

-- the command of a bundle refuses its texts, or one of them is too long
abbrev pub IsRefusedThere : Command → List ℕ → List ℕ → List ℕ → Fault → Type 0
IsRefusedThere command network traffic third e = IsRefusedBy command network traffic (lines_in third) e
    ⊎ IsEndless network traffic third e

-- the octets aren't a bundle, or the command refuses its texts
abbrev pub IsRefusedBundle : List ℕ → Fault → Type 0
IsRefusedBundle octets e =
    ((e ≡ fault_at schedule_or_bundle places.None)
    × ((command : Command) (network : List ℕ) (traffic : List ℕ) (third : List ℕ)
    → IsBundle octets command network traffic third → ⊥))
    ⊎ ((command : Command) × (network : List ℕ) × (traffic : List ℕ) × (third : List ℕ)
    × IsBundle octets command network traffic third × IsRefusedThere command network traffic third e)
