-- What an audit comes to.
use Rattle.std.proofs.Common.{◌≡◌, ◌⊎◌, inl, inr, ℕ, List, Option, refl, sym, ap, subst, Result, Ok, Err, IfOk, arith}
use Rattle.fx_base.specs.declared.fault.Fault.{Fault}
use Rattle.fx_base.specs.Device.{Writes}
use Rattle.fx_base.specs.Lines.{text_lines}
use Rattle.fx_tables.specs.Classes.{Class}
use Rattle.fx_topology.specs.declared.network.NetworkDocument.{NetworkDocument}
use Rattle.fx_plan.specs.Tables.{net_of}
use Rattle.fx_check.specs.Certificates.{IsCertificate}
use Rattle.fx_search.specs.Found.{IsRight, Settles}
use Rattle.fx_search.specs.Fronts.{most_lines}
use Rattle.fx_search.specs.Growing.{IsGivenUp}
use Rattle.fx_search.specs.declared.found.Found.{Found}
use Rattle.fx_search.specs.declared.found.Found.TheVariants as found
use Rattle.fx_traffic.specs.Targets.{targets_of}
use Rattle.fx_checker.specs.declared.answer.Answer.{Answer}
use Rattle.fx_checker.specs.declared.answer.Answer.TheVariants.{Unknown}
use Rattle.fx_audit.specs.Audits.{IsAuditedIn, IsFoundText, unknown_line}
use Rattle.fx_checker.specs.Documents.{BothMayHaveLeft, IsRefusedByDocuments}
use Rattle.fx_checker.specs.Outputs.{Prints}

pub found_answered : (network : NetworkDocument) (classes : List Class) (limit : ℕ) (f : Found)
    (old new : Option (List ℕ)) (result : Result Answer Fault) → IsRight (net_of network) classes limit f
    → Settles (net_of network) classes f → IfOk result (λ a. Prints (IsFoundText f a) old new)
    → IfOk result (λ a. Prints (IsAuditedIn network classes limit a) old new)
found_answered network classes limit f old new (Err e) right settles h = tt
found_answered network classes limit (found.Certificate items) old new (Ok a) right settles h =
    let text = h.0 in
    let said = h.1 in
    let lines : IsCertificate (net_of network) classes (text_lines text) = rw said.1 right.1 in (
      text,
      subst (λ (x : Answer). IsAuditedIn network classes limit x text) (sym said.0)
          (record {
            once = settles.0;
            modulo = settles.1;
            certificate = lines;
            items = items.items;
            found =
                right.0;
            text_is = said.1;
          }),
      h.2,
    )
found_answered network classes limit (found.Refutation r) old new (Ok a) right settles h =
    let text = h.0 in
    let said = h.1 in (
      text,
      subst (λ (x : Answer). IsAuditedIn network classes limit x text) (sym said.0)
          (record { not_once = settles; refutation = r; refutes = right; text_is = said.1 }),
      h.2,
    )

pub none_answered : (network : NetworkDocument) (classes : List Class) (limit : ℕ) (fault : Fault)
    (old new : Option (List ℕ)) (result : Result Answer Fault)
    → IsGivenUp (net_of network) (targets_of classes) (most_lines limit) fault
    → IfOk result (λ a. (a ≡ Unknown) × (fault.number ≡ 601) × Writes old new unknown_line)
    → IfOk result (λ a. Prints (IsAuditedIn network classes limit a) old new)
none_answered network classes limit fault old new (Err e) why h = tt
none_answered network classes limit fault old new (Ok a) (inl memory) h =
    absurd (let n = ap (λ (x : Fault). x.number) memory in let m = h.1 in omega (arith, n, m))
none_answered network classes limit fault old new (Ok a) (inr none) h = (
  unknown_line,
  subst (λ (x : Answer). IsAuditedIn network classes limit x unknown_line) (sym h.0)
      (record { too_large = none.1; text_is = refl }),
  h.2,
)

-- a document is refused
pub audit_unread : (left_n left_t : Option (List ℕ)) (e : Fault) (M N T W : Type 0) → M
    ⊎ (N ⊎ (T ⊎ BothMayHaveLeft left_n left_t (λ n t. IsRefusedByDocuments n t e))) → M
    ⊎ (N ⊎ (T ⊎ (W ⊎ BothMayHaveLeft left_n left_t (λ n t. IsRefusedByDocuments n t e))))
audit_unread left_n left_t e M N T W h =
    elim h [
      | inl m ↦ inl m
      | inr (inl n) ↦ inr (inl n)
      | inr (inr (inl t)) ↦ inr (inr (inl t))
      | inr (inr (inr f)) ↦ inr (inr (inr (inr f)))
    ]
