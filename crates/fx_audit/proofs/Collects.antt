-- What a collection over octets comes to.
use Rattle.std.proofs.Common.{◌≡◌, ◌⊎◌, ℕ, List, Option, Result, Ok, Err, IfOk, IfErr, subst, inl, inr}
use Rattle.serde_json.specs.Read.{read}
use Rattle.fx_base.specs.declared.fault.Fault.{Fault}
use Rattle.fx_base.specs.declared.fault.Place.TheVariants as places
use Rattle.fx_base.specs.Device.{MayHaveLeft, Writes}
use Rattle.fx_tables.specs.Network.{Net}
use Rattle.fx_topology.specs.declared.network.NetworkDocument.{NetworkDocument}
use Rattle.fx_plan.specs.Tables.{net_of}
use Rattle.fx_checker.specs.declared.answer.Answer.{Answer}
use Rattle.fx_checker.specs.declared.answer.Answer.TheVariants.{Yes}
use Rattle.fx_audit.specs.Commands.{IsCollected, IsRefusedCollect}
use Rattle.fx_checker.specs.Documents.{BothMayHaveLeft, IsNetworkDocument, IsRefusedNetwork}
use Rattle.fx_checker.specs.Outputs.{Prints}
use Rattle.fx_audit.specs.Streams.{IsRefusedStream, IsStreamText, EndsWithMessage, stream_read}
use Rattle.fx_checker.proofs.Documents.{both_reported, first_reported}

-- ---- a stream at the report of a network

abbrev Collects : Net → Option (List ℕ) → Option (List ℕ) → List ℕ → Type 0
Collects net old new octets = EndsWithMessage (stream_read octets)
    × Prints (IsStreamText net.report_layout (stream_read octets).known) old new

pub collect_done : (left_n left_s : Option (List ℕ)) (network : NetworkDocument) (net : Net) (old new : Option (List ℕ))
    (result : Result Answer Fault) → net ≡ net_of network → MayHaveLeft left_n (λ n. IsNetworkDocument n network)
    → IfOk result (λ a. (a ≡ Yes) × MayHaveLeft left_s (λ octets. Collects net old new octets))
    → IfOk result (λ a. (a ≡ Yes) × BothMayHaveLeft left_n left_s
    (λ n octets. Prints (IsCollected n octets) old new))
collect_done left_n left_s network net old new (Err e) is n h = cc
collect_done left_n left_s network net old new (Ok a) is n h = (
  h.0,
  both_reported left_n left_s (λ o. IsNetworkDocument o network) (Collects net old new)
      (λ o octets. Prints (IsCollected o octets) old new) n h.1 (λ o octets p c. reported o octets p c),
) where
  reported : (o octets : List ℕ) → IsNetworkDocument o network → Collects net old new octets
      → Prints (IsCollected o octets) old new
  reported o octets p c =
      let text = c.1.0 in
      let is_text : IsStreamText net.report_layout (stream_read octets).known text = c.1.1 in
      let here : IsStreamText (net_of network).report_layout (stream_read octets).known text =
      subst (λ (x : Net). IsStreamText x.report_layout (stream_read octets).known text) is is_text in
      let written : Writes old new text = c.1.2 in
      (text, record { network = network; network_is = p; whole = c.0; text_is = here }, written)

pub collect_refused : (left_n left_s : Option (List ℕ)) (network : NetworkDocument) (N F W : Fault → Type 0)
    (M : Fault → Type 0) (result : Result Answer Fault) → MayHaveLeft left_n (λ n. IsNetworkDocument n network)
    → IfErr result (λ e. M e ⊎ (F e ⊎ (W e ⊎ MayHaveLeft left_s (λ octets. IsRefusedStream (stream_read octets) e))))
    → IfErr result
    (λ e. M e ⊎ (N e ⊎ (F e ⊎ (W e ⊎ BothMayHaveLeft left_n left_s (λ n octets. IsRefusedCollect n octets e)))))
collect_refused left_n left_s network N F W M (Ok a) n h = cc
collect_refused left_n left_s network N F W M (Err e) n h =
    elim h [
      | inl m ↦ inl m
      | inr (inl f) ↦ inr (inr (inl f))
      | inr (inr (inl w)) ↦ inr (inr (inr (inl w)))
      | inr (inr (inr r)) ↦
          inr
          (inr (inr (inr (both_reported left_n left_s (λ o. IsNetworkDocument o network)
          (λ octets. IsRefusedStream (stream_read octets) e) (λ o octets. IsRefusedCollect o octets e) n r
          (λ o octets p q. inr (network, p, q))))))
    ]

-- ---- a document that is read has no fault

-- the network's document is refused
pub collect_unread : (left_n left_s : Option (List ℕ)) (e : Fault) (M N T W : Type 0) → M
    ⊎ (N ⊎ MayHaveLeft left_n (λ n. IsRefusedNetwork n e)) → M
    ⊎ (N ⊎ (T ⊎ (W ⊎ BothMayHaveLeft left_n left_s (λ n o. IsRefusedCollect n o e))))
collect_unread left_n left_s e M N T W h =
    elim h [
      | inl m ↦ inl m
      | inr (inl n) ↦ inr (inl n)
      | inr (inr f) ↦
          inr
          (inr (inr (inr (first_reported left_n left_s (λ n. IsRefusedNetwork n e) (λ n o. IsRefusedCollect n o e)
          (λ n o p. inl p) f))))
    ]
