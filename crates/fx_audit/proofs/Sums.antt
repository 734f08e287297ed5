-- Why a sum over octets is refused.
use Rattle.std.proofs.Common.{◌≡◌, ◌⊎◌, ℕ, List, Option, Result, Ok, Err, IfErr, inl, inr, subst}
use Rattle.fx_base.specs.declared.fault.Fault.{Fault}
use Rattle.fx_base.specs.Device.{MayHaveLeft}
use Rattle.fx_base.specs.Lines.{Lines}
use Rattle.fx_layout.specs.Keys.{Layout}
use Rattle.fx_plan.specs.Tables.{net_of}
use Rattle.fx_topology.specs.declared.network.NetworkDocument.{NetworkDocument}
use Rattle.fx_checker.specs.declared.answer.Answer.{Answer}
use Rattle.fx_checker.specs.Documents.{IsNetworkDocument, IsRefusedNetwork}
use Rattle.fx_audit.specs.Sums.{IsRefusedSum, IsRefusedTotals}

-- the network's document is
pub sum_unread : (left : Option (List ℕ)) (lines : Lines) (e : Fault) (M N F W : Type 0) → M
    ⊎ (N ⊎ MayHaveLeft left (λ n. IsRefusedNetwork n e)) → M
    ⊎ (N ⊎ (F ⊎ (W ⊎ MayHaveLeft left (λ n. IsRefusedSum n lines e))))
sum_unread left lines e M N F W h =
    elim h [
      | inl m ↦ inl m
      | inr (inl n) ↦ inr (inl n)
      | inr (inr r) ↦ inr (inr (inr (inr (r.0, r.1, inl r.2))))
    ]

-- a line is
pub sum_refused : (left : Option (List ℕ)) (network : NetworkDocument) (layout : Layout) (lines : Lines)
    (M N F W : Fault → Type 0) (result : Result Answer Fault) → layout ≡ (net_of network).report_layout
    → MayHaveLeft left (λ n. IsNetworkDocument n network)
    → IfErr result (λ e. M e ⊎ (F e ⊎ (W e ⊎ IsRefusedTotals layout lines e)))
    → IfErr result (λ e. M e ⊎ (N e ⊎ (F e ⊎ (W e ⊎ MayHaveLeft left (λ n. IsRefusedSum n lines e)))))
sum_refused left network layout lines M N F W (Ok a) same n h = tt
sum_refused left network layout lines M N F W (Err e) same n h =
    elim h [
      | inl m ↦ inl m
      | inr (inl f) ↦ inr (inr (inl f))
      | inr (inr (inl w)) ↦ inr (inr (inr (inl w)))
      | inr (inr (inr r)) ↦
          inr (inr (inr (inr (n.0, n.1, inr (network, n.2, subst (λ (l : Layout). IsRefusedTotals l lines e) same r)))))
    ]
