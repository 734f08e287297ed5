-- What a run over a capture prints, and why it is refused.
use Rattle.std.specs.Prelude.{◌≡◌, ◌⊎◌, ℕ, Bool, List, ◌++◌, codes, Option, IsPermutation}
use Rattle.std.specs.Fmt.{decimal}
use Rattle.fx_base.specs.declared.fault.Fault.{Fault}
use Rattle.fx_base.specs.Lines.{Lines}
use Rattle.fx_tables.specs.Classes.{Class}
use Rattle.fx_link.specs.Links.{Put}
use Rattle.fx_collect.specs.Totals.{Totals}
use Rattle.fx_collect.specs.Report.{KeysAscend, number_line, totals_text}
use Rattle.fx_pcap.specs.declared.skipped.Skipped.{Skipped}
use Rattle.fx_pcap.specs.Captures.{IsOpened, IsRefusedCapture, CaptureState}
use Rattle.fx_topology.specs.declared.network.NetworkDocument.{NetworkDocument}
use Rattle.fx_net.specs.Running.{RefusesRun, RunsTo, begun}
use Rattle.fx_conform.specs.Whole.{IsRunOf}
use Rattle.fx_checker.specs.Documents.{IsNetworkDocument, IsRefusedIn, IsTraffic}

-- ---- the text

-- the line that reports the numbers of skipped frames
abbrev pub skipped_line : ℕ → ℕ → List ℕ
skipped_line other malformed = codes "skipped other " ++ (decimal other ++ number_line (codes " malformed ") malformed)

-- the text of totals, with their keys in ascending order, and of the numbers of skipped frames
pub record IsMeteredText (tallied : Totals) (other malformed : ℕ) (text : List ℕ) : Type 0 where
  pub totals : Totals
  pub entries : IsPermutation tallied.entries totals.entries
  pub ascending : KeysAscend totals.entries
  pub layout_is : totals.layout ≡ tallied.layout
  pub unassigned : totals.unassigned ≡ tallied.unassigned
  pub text_is : text ≡ totals_text totals ++ skipped_line other malformed

-- ---- a run in a network and traffic over a capture, given the octets that its source has left, if known, and the
-- number of calls made of that source

-- the capture's reader starts after the file header; the run yields these totals and these numbers of skipped frames
pub record IsRun (network : NetworkDocument) (classes : List Class) (left : Option (List ℕ)) (asked : ℕ)
    (from last : Lines) (before after : Put) (totals : Totals) (skipped : Skipped) : Type 0 where
  pub at : CaptureState
  pub to : CaptureState
  pub opened : IsOpened left asked at
  pub runs : RunsTo (begun network classes) at to from last before after totals
  pub skipped_is : skipped ≡ to.skipped

-- the text that the run prints
pub record IsMeteredIn (network : NetworkDocument) (classes : List Class) (left : Option (List ℕ)) (asked : ℕ)
    (from last : Lines) (before after : Put) (text : List ℕ) : Type 0 where
  pub totals : Totals
  pub skipped : Skipped
  pub ran : IsRun network classes left asked from last before after totals skipped
  pub text_is : IsMeteredText totals skipped.other skipped.malformed text

-- the state of the capture agrees with some state of its source: whether the last call failed, and the number of calls
-- made
abbrev pub IsStateOfSource : {C : Type 0} → (C → ℕ) → (C → Bool) → CaptureState → Type 0
IsStateOfSource {C} calls failed to = (last : C) × (failed last ≡ to.failed) × (calls last ≡ to.asked)

-- the capture can't be opened, because of its source or its file header; or the run over it is refused and leaves the
-- capture in a state that satisfies the predicate
abbrev pub IsRefusedOver : NetworkDocument → List Class → Option (List ℕ) → ℕ → Type 0 → (CaptureState → Type 0) → Lines
    → Lines → Put → Fault → Type 0
IsRefusedOver network classes left asked unread HoldsAtEnd from last before e =
    IsRefusedCapture left unread e
    ⊎ ((at : CaptureState) × (to : CaptureState) × IsOpened left asked at
    × RefusesRun (begun network classes) at to from last before e × HoldsAtEnd to)

-- ---- the same in the network and traffic that two documents declare

-- The text that the run prints; the run is a complete run of the abstract network over the capture's packets.
pub record IsMetered (network_octets traffic_octets : List ℕ) (left : Option (List ℕ)) (asked : ℕ) (from last : Lines)
    (before after : Put) (text : List ℕ) : Type 0 where
  pub network : NetworkDocument
  pub classes : List Class
  pub network_is : IsNetworkDocument network_octets network
  pub traffic_is : IsTraffic network traffic_octets classes
  pub metered : IsMeteredIn network classes left asked from last before after text
  pub complete : IsRunOf network classes metered.ran.at metered.ran.to from last before after metered.totals

-- the first refusal: that of the documents, then that of the capture's file header, then that of the run
abbrev pub IsRefusedMetering : List ℕ → List ℕ → Option (List ℕ) → ℕ → Type 0 → (CaptureState → Type 0) → Lines → Lines
    → Put → Fault → Type 0
IsRefusedMetering network_octets traffic_octets left asked unread HoldsAtEnd from last before e =
    IsRefusedIn (λ network classes. IsRefusedOver network classes left asked unread HoldsAtEnd from last before e)
    network_octets traffic_octets e
