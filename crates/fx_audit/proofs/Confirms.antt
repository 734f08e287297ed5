-- What is answered to a refutation.
use Rattle.std.proofs.Common.{◌≡◌, ◌==◌, List, ℕ, Option, Bool, true, false, Result, IfOk, IfErr, Ok, Err, inl, inr, refl, sym, subst, arith, if◌then◌else◌}
use Rattle.std.proofs.lemmas.Bool.{eqb-true}
use Rattle.fx_base.specs.declared.fault.Fault.{Fault}
use Rattle.fx_base.specs.declared.fault.Place.TheVariants as places
use Rattle.fx_base.specs.Device.{Writes}
use Rattle.fx_base.specs.Fault.{fault_at}
use Rattle.fx_base.specs.Lines.{Lines}
use Rattle.fx_tables.specs.Classes.{Class}
use Rattle.fx_topology.specs.declared.network.NetworkDocument.{NetworkDocument}
use Rattle.fx_collect.specs.Totals.{Totals}
use Rattle.fx_checker.specs.declared.answer.Answer.{Answer}
use Rattle.fx_checker.specs.declared.answer.Answer.TheVariants.{Yes, No}
use Rattle.fx_checker.specs.Checks.{no_line}
use Rattle.fx_audit.specs.Confirms.{IsConfirmedIn, IsNo, IsRefusedRefutation, IsRefuted, RefutesNothing, printed_refusal, refuted_text}
use Rattle.fx_checker.specs.Outputs.{Prints}
use Rattle.fx_checker.proofs.Refusals.{IsPassedOn, IsRefusedWhy, answered_no, refused_by}

-- ---- a refusal as it is printed

pub same_number : (e : Fault) → (printed_refusal e).number ≡ e.number
same_number e = elim (e.number == 501) as (λ t. (if t then fault_at e.number places.None else e).number ≡ e.number)
    [ true ↦ refl | false ↦ refl ]

same_but_for_form : (e : Fault) → (t : Bool) → (e.number == 501) ≡ t → (RefutesNothing e.number → ⊥)
    → (if t then fault_at e.number places.None else e) ≡ e
same_but_for_form e true is otherwise =
    absurd (otherwise (subst (λ (n : ℕ). RefutesNothing n) (sym (eqb-true e.number 501 is)) (omega arith, omega arith)))
same_but_for_form e false is otherwise = refl

-- one that isn't answered is passed on as it is
pub passed_as_it_is : (fault : Fault) (failed : Bool) (result : Result Answer Fault)
    → IfErr result (IsPassedOn 501 505 (printed_refusal fault) failed) → IfErr result (IsPassedOn 501 505 fault failed)
passed_as_it_is fault failed (Ok a) h = tt
passed_as_it_is fault failed (Err e) (inr w) = inr w
passed_as_it_is fault failed (Err e) (inl (is, otherwise)) =
    let not_here : RefutesNothing fault.number → ⊥ =
    λ within. otherwise (subst (λ (n : ℕ). RefutesNothing n) (sym (same_number fault)) within) in
    let same : printed_refusal fault ≡ fault = same_but_for_form fault (fault.number == 501) refl not_here in
    inl (subst (λ (f : Fault). e ≡ f) same is, not_here)

-- ---- the answers

no_of : (network : NetworkDocument) (classes : List Class) (old new : Lines) (fault : Fault)
    → IsRefusedWhy (IsRefusedRefutation network classes old) old new fault
    → RefutesNothing (printed_refusal fault).number → IsNo network classes old (no_line (printed_refusal fault))
no_of network classes old new fault why printed =
    let means : RefutesNothing fault.number = subst (λ (n : ℕ). RefutesNothing n) (same_number fault) printed in
    record {
      fault = fault;
      means_no = means;
      refused = refused_by (IsRefusedRefutation network classes old) 501 505 old new fault (omega arith) why means;
      text_is = refl;
    }

pub refutation_answered : (network : NetworkDocument) (classes : List Class) (old new : Lines) (fault : Fault)
    (before after : Option (List ℕ)) (result : Result Answer Fault)
    → IsRefusedWhy (IsRefusedRefutation network classes old) old new fault
    → IfOk result (λ a. (a ≡ No) × RefutesNothing (printed_refusal fault).number
    × Writes before after (no_line (printed_refusal fault)))
    → IfOk result (λ a. Prints (IsConfirmedIn network classes old a) before after)
refutation_answered network classes old new fault before after result why h =
    answered_no (IsConfirmedIn network classes old) 501 505 (printed_refusal fault) before after result
    (no_of network classes old new fault why) h

pub refuted_answered : (network : NetworkDocument) (classes : List Class) (lines : Lines) (ran plain : Totals)
    (before after : Option (List ℕ)) (result : Result Answer Fault) → IsRefuted network classes lines ran plain
    → IfOk result (λ a. (a ≡ Yes) × Writes before after (refuted_text ran plain))
    → IfOk result (λ a. Prints (IsConfirmedIn network classes lines a) before after)
refuted_answered network classes lines ran plain before after (Ok a) refuted h =
    subst (λ (x : Answer). Prints (IsConfirmedIn network classes lines x) before after) (sym h.0)
    (refuted_text ran plain, record { ran = ran; plain = plain; refuted = refuted; text_is = refl }, h.1)
refuted_answered network classes lines ran plain before after (Err e) refuted h = tt
