-- What a run over a capture comes to.
use Rattle.std.proofs.Common.{◌≡◌, ◌⊎◌, ℕ, Bool, List, [], drop, Option, Some, None, Result, Ok, Err, IfSome, IfOk, IfErr, refl, sym, subst, inl, inr}
use Rattle.fx_base.specs.declared.fault.Fault.{Fault}
use Rattle.fx_base.specs.declared.fault.Place.TheVariants as places
use Rattle.fx_base.specs.Device.{MayBeLeft, MayHaveLeft, Writes}
use Rattle.fx_base.specs.Fault.{fault_at}
use Rattle.fx_base.specs.Lines.{Lines}
use Rattle.fx_tables.specs.Classes.{Class}
use Rattle.fx_link.specs.Links.{Put}
use Rattle.fx_pcap.specs.Captures.{IsOpened, CaptureState}
use Rattle.fx_pcap.specs.Records.{format_of}
use Rattle.fx_pcap.specs.declared.header.Format.{Format}
use Rattle.fx_topology.specs.declared.network.NetworkDocument.{NetworkDocument}
use Rattle.fx_net.specs.Running.{FailsOutside, RefusesRun, begun}
use Rattle.fx_topology.specs.Networks.{device_names}
use Rattle.fx_plan.specs.Tables.{net_of}
use Rattle.fx_conform.specs.Conforming.{IsSound}
use Rattle.fx_conform.specs.Whole.{HavePaths, IsRunOf}
use Rattle.fx_conform.proofs.Paths.{declarations_have_paths}
use Rattle.fx_conform.proofs.WholeRuns.{runs_are_complete}
use Rattle.fx_checker.specs.declared.answer.Answer.{Answer}
use Rattle.fx_checker.specs.declared.answer.Answer.TheVariants.{Yes}
use Rattle.fx_checker.specs.Documents.{BothMayHaveLeft, IsNetworkDocument, IsRefusedByDocuments, IsTraffic}
use Rattle.fx_audit.specs.Metering.{IsMetered, IsMeteredIn, IsRefusedOver, IsRefusedMetering}
use Rattle.fx_checker.specs.Outputs.{Prints}
use Rattle.fx_checker.proofs.Documents.{both_mapped, both_reported}

-- ---- a capture that was opened

one_format : (r : Result Format Fault) (format : Format) (e : Fault) → r ≡ Ok format → r ≡ Err e → ⊥
one_format r format e ok err = absurd cc

-- has a file header, so what holds of one whose header is refused holds of it
pub header_faultless : (left : Option (List ℕ)) (asked : ℕ) (at : CaptureState) (A : Type 0) → IsOpened left asked at
    → IfSome left (λ c. (e : Fault) → format_of c ≡ Err e → A)
header_faultless None asked at A h = tt
header_faultless (Some c) asked at A h = λ e refused.
    let behind : MayBeLeft at.left (drop 24 c) =
    subst (λ (o : Option (List ℕ)). MayBeLeft o (drop 24 c)) (sym h.rest) refl in
    let there = h.format (drop 24 c) behind in
    absurd (one_format (format_of c) at.format e (subst (λ (o : List ℕ). format_of o ≡ Ok at.format) there.1 there.2.0)
    refused)

-- a run over it is refused
pub refused_behind : (network : NetworkDocument) (classes : List Class) (left : Option (List ℕ)) (asked : ℕ)
    (unread : Type 0) (HoldsAtEnd : CaptureState → Type 0) (at to : CaptureState) (from last : Lines) (before : Put)
    (failed : Bool) (e : Fault) → IsOpened left asked at → HoldsAtEnd to
    → FailsOutside failed e ⊎ RefusesRun (begun network classes) at to from last before e → FailsOutside failed e
    ⊎ IsRefusedOver network classes left asked unread HoldsAtEnd from last before e
refused_behind network classes left asked unread HoldsAtEnd at to from last before failed e opened stands
    (inl outside) = inl outside
refused_behind network classes left asked unread HoldsAtEnd at to from last before failed e opened stands
    (inr refused) = inr (inr (at, to, opened, refused, stands))

-- what follows for another source
pub refused_over : (network : NetworkDocument) (classes : List Class) (left : Option (List ℕ)) (asked : ℕ)
    (unread : Type 0) (HoldsAtEnd : CaptureState → Type 0) (other : Type 0) (HoldsOfOther : CaptureState → Type 0)
    (from last : Lines) (before : Put) (e : Fault) → (unread → other)
    → ((to : CaptureState) → HoldsAtEnd to → HoldsOfOther to)
    → IsRefusedOver network classes left asked unread HoldsAtEnd from last before e
    → IsRefusedOver network classes left asked other HoldsOfOther from last before e
refused_over network classes left asked unread HoldsAtEnd other HoldsOfOther from last before e unreadable at_end
    (inl (inl memory)) = inl (inl memory)
refused_over network classes left asked unread HoldsAtEnd other HoldsOfOther from last before e unreadable at_end
    (inl (inr (inl (failed, cut)))) = inl (inr (inl (failed, unreadable cut)))
refused_over network classes left asked unread HoldsAtEnd other HoldsOfOther from last before e unreadable at_end
    (inl (inr (inr header))) = inl (inr (inr header))
refused_over network classes left asked unread HoldsAtEnd other HoldsOfOther from last before e unreadable at_end
    (inr (at, to, opened, refused, ended)) = inr (at, to, opened, refused, at_end to ended)

-- so nothing is written
pub unmetered : (O W R : Type 0) → O ⊎ R → O ⊎ (W ⊎ R)
unmetered O W R (inl outside) = inl outside
unmetered O W R (inr refused) = inr (inr refused)

-- ---- two documents and a run

-- it is a complete run of the abstract network
run_complete : (network : NetworkDocument) (classes : List Class) (left : Option (List ℕ)) (asked : ℕ)
    (from last : Lines) (before after : Put) (text traffic_octets : List ℕ)
    → IsSound (net_of network) → IsTraffic network traffic_octets classes
    → (metered : IsMeteredIn network classes left asked from last before after text)
    → IsRunOf network classes metered.ran.at metered.ran.to from last before after metered.totals
run_complete network classes left asked from last before after text traffic_octets sound traffic metered =
    let paths : HavePaths classes = subst HavePaths (sym traffic.means)
    (declarations_have_paths (device_names network) [] traffic.value traffic.faultless) in
    runs_are_complete network classes metered.ran.at metered.ran.to from last before after metered.totals sound paths
    metered.ran.runs

pub run_done : (left_n left_t left : Option (List ℕ)) (asked : ℕ) (network : NetworkDocument) (classes : List Class)
    (from last : Lines) (before after : Put) (old new : Option (List ℕ)) (result : Result Answer Fault)
    → IsSound (net_of network) → MayHaveLeft left_n (λ n. IsNetworkDocument n network)
    → MayHaveLeft left_t (λ t. IsTraffic network t classes)
    → IfOk result (λ a. (a ≡ Yes) × Prints (IsMeteredIn network classes left asked from last before after) old new)
    → IfOk result (λ a. (a ≡ Yes) × BothMayHaveLeft left_n left_t
    (λ n t. Prints (IsMetered n t left asked from last before after) old new))
run_done left_n left_t left asked network classes from last before after old new (Err e) sound n t h = tt
run_done left_n left_t left asked network classes from last before after old new (Ok a) sound n t h =
    let text = h.1.0 in
    let metered : IsMeteredIn network classes left asked from last before after text = h.1.1 in
    let written : Writes old new text = h.1.2 in (
      h.0,
      both_reported left_n left_t (λ o. IsNetworkDocument o network) (λ o. IsTraffic network o classes)
          (λ x y. Prints (IsMetered x y left asked from last before after) old new) n t
          (λ x y p q. (
            text,
            record {
              network = network;
              classes = classes;
              network_is = p;
              traffic_is = q;
              metered =
                  metered;
              complete = run_complete network classes left asked from last before after text y sound q metered;
            },
            written,
          )),
    )

-- the run is refused, in the network and traffic that were read, over a source that was lent
pub run_refused : (left_n left_t left : Option (List ℕ)) (asked : ℕ) (lent : Type 0)
    (HoldsOfLent : CaptureState → Type 0) (unread : Type 0) (HoldsAtEnd : CaptureState → Type 0)
    (network : NetworkDocument) (classes : List Class) (from last : Lines) (before : Put) (M N T W : Fault → Type 0)
    (result : Result Answer Fault)
    → (lent → unread) → ((to : CaptureState) → HoldsOfLent to → HoldsAtEnd to)
    → MayHaveLeft left_n (λ n. IsNetworkDocument n network) → MayHaveLeft left_t (λ t. IsTraffic network t classes)
    → IfErr result (λ e. M e ⊎ (W e ⊎ IsRefusedOver network classes left asked lent HoldsOfLent from last before e))
    → IfErr result
    (λ e. M e
    ⊎ (N e ⊎ (T e ⊎ (W e ⊎ BothMayHaveLeft left_n left_t
    (λ n t. IsRefusedMetering n t left asked unread HoldsAtEnd from last before e)))))
run_refused left_n left_t left asked lent HoldsOfLent unread HoldsAtEnd network classes from last before M N T W (Ok a)
    unreadable at_end n t h = tt
run_refused left_n left_t left asked lent HoldsOfLent unread HoldsAtEnd network classes from last before M N T W (Err e)
    unreadable at_end n t h =
    elim h [
      | inl m ↦ inl m
      | inr (inl w) ↦ inr (inr (inr (inl w)))
      | inr (inr r) ↦
          inr
          (inr (inr (inr (both_reported left_n left_t (λ o. IsNetworkDocument o network)
          (λ o. IsTraffic network o classes) (λ x y. IsRefusedMetering x y left asked unread HoldsAtEnd from last
          before e) n t (λ x y p q. inr (
            network,
            classes,
            p,
            q,
            refused_over network classes left asked lent
                HoldsOfLent unread HoldsAtEnd from last before e unreadable at_end r,
          ))))))
    ]

-- a document is refused
pub run_unread : (left_n left_t left : Option (List ℕ)) (asked : ℕ) (unread : Type 0)
    (HoldsAtEnd : CaptureState → Type 0) (from last : Lines) (before : Put) (failed : Bool) (e : Fault) (N T W : Type 0)
    → (e ≡ fault_at 900 places.None) ⊎ (N ⊎ (T ⊎ BothMayHaveLeft left_n left_t (λ n t. IsRefusedByDocuments n t e)))
    → FailsOutside failed e
    ⊎ (N ⊎ (T ⊎ (W ⊎ BothMayHaveLeft left_n left_t
    (λ n t. IsRefusedMetering n t left asked unread HoldsAtEnd from last before e))))
run_unread left_n left_t left asked unread HoldsAtEnd from last before failed e N T W h =
    elim h [
      | inl m ↦ inl (inl m)
      | inr (inl n) ↦ inr (inl n)
      | inr (inr (inl t)) ↦ inr (inr (inl t))
      | inr (inr (inr f)) ↦
          inr
          (inr (inr (inr (both_mapped left_n left_t (λ n t. IsRefusedByDocuments n t e)
          (λ n t. IsRefusedMetering n t left asked unread HoldsAtEnd from last before e) (λ n t p. inl p) f))))
    ]
