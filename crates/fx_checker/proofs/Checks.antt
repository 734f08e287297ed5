-- What is answered to a certificate that is refused.
use Rattle.std.proofs.Common.{◌≡◌, ◌⊎◌, ℕ, Bool, List, Option, Some, None, Result, Ok, Err, IfOk, IfErr, inl, inr, refl, sym, subst, arith}
use Rattle.fx_base.specs.declared.fault.Fault.{Fault}
use Rattle.fx_base.specs.declared.fault.Place.TheVariants as places
use Rattle.fx_base.specs.Device.{Writes, IsWriteFault}
use Rattle.fx_base.specs.Fault.{fault_at}
use Rattle.fx_base.specs.Lines.{Lines, text_lines, Fails}
use Rattle.fx_check.specs.Judging.{judge_of}
use Rattle.fx_check.specs.Outcomes.{IsRefusal, IsCheckFault, IsReportedBy, MayBeRefused}
use Rattle.fx_check.specs.Outcomes as of_check
use Rattle.fx_traffic.specs.Targets.{targets_of}
use Rattle.fx_check.specs.FirstRefusal.{Refusal, first_refusal, whole}
use Rattle.fx_tables.specs.Classes.{Class}
use Rattle.fx_topology.specs.declared.network.NetworkDocument.{NetworkDocument}
use Rattle.fx_plan.specs.Tables.{net_of}
use Rattle.fx_checker.specs.declared.answer.Answer.{Answer}
use Rattle.fx_checker.specs.declared.answer.Answer.TheVariants.{No}
use Rattle.fx_checker.specs.Checks.{IsAnswered, IsNo, IsFaultOf, IsRefusedCertificate, IsRefusedText, no_line, IsNoAnswer, memory, read_failed, write_failed, too_long, IsUnanswered, MeansNo}
use Rattle.fx_checker.specs.Outputs.{Prints}
use Rattle.fx_checker.proofs.Refusals.{IsPassedOn, IsRefusedWhy, answered_no, refused_by, refused_otherwise}

-- ---- numbers

-- what isn't answered no
unanswered : (lines : Lines) (fault : Fault) → IsReportedBy lines fault → (MeansNo fault.number → ⊥)
    → IsUnanswered lines fault
unanswered lines fault (inl stopped) other = inl stopped
unanswered lines fault (inr kind) other = inr (go fault kind other) where
  go : (f : Fault) → IsCheckFault f → (MeansNo f.number → ⊥) → IsNoAnswer f
  go f of_check.memory other = memory
  go f of_check.device other = read_failed
  go f (of_check.too_long line) other = too_long line
  go f (of_check.wrong number line is) other = absurd (other is)

-- what is answered no stands at a line
place_of_no : (lines : Lines) (fault : Fault) → IsReportedBy lines fault → MeansNo fault.number
    → (lines.stopped ≡ Some fault) ⊎ ((line : ℕ) × (fault.place ≡ places.Line line))
place_of_no lines fault (inl stopped) means = inl stopped
place_of_no lines fault (inr kind) means = inr (go fault kind means) where
  go : (f : Fault) → IsCheckFault f → MeansNo f.number → (line : ℕ) × (f.place ≡ places.Line line)
  go f of_check.memory means = absurd (omega (arith, means.1))
  go f of_check.device means = absurd (omega (arith, means.1))
  go f (of_check.too_long line) means = (line, refl)
  go f (of_check.wrong number line is) means = (line, refl)

pub from_write : (lines : Lines) (e : Fault) → e ≡ fault_at 902 places.None → IsUnanswered lines e
from_write lines e is = inr (subst IsNoAnswer (sym is) write_failed)

-- ---- the answer to a refusal

-- why a certificate is refused
abbrev IsCertificateRefused : NetworkDocument → List Class → Lines → Lines → Fault → Type 0
IsCertificateRefused network classes old new fault =
    ((fault ≡ fault_at 900 places.None) × (new ≡ old))
    ⊎ (Fails old new fault ⊎ MayBeRefused (net_of network) (targets_of classes) old new fault)

is_fault_of : (first : Option Refusal) (new : Lines) (fault : Fault) → IsRefusal fault new first → IsFaultOf fault first
is_fault_of None new fault h = absurd h
is_fault_of (Some r) new fault h = h.0

refused_why : (network : NetworkDocument) (classes : List Class) (old new : Lines) (fault : Fault)
    → IsCertificateRefused network classes old new fault
    → IsRefusedWhy (IsRefusedText network classes old) old new fault
refused_why network classes old new fault (inl m) = inl m.0
refused_why network classes old new fault (inr (inl f)) = inr (inl f)
refused_why network classes old new fault (inr (inr (text, left, h))) =
    inr (inr (
      text,
      left,
      is_fault_of (first_refusal (judge_of (net_of network)) old.number 0
          (whole (targets_of classes)) (text_lines text)) new fault h,
    ))

no_of : (network : NetworkDocument) (classes : List Class) (old new : Lines) (fault : Fault)
    → IsCertificateRefused network classes old new fault → IsReportedBy old fault → MeansNo fault.number
    → IsNo network classes old (no_line fault)
no_of network classes old new fault why reported means = record {
  fault = fault;
  means_no = means;
  place = place_of_no old fault reported means;
  refused = refused_by (IsRefusedText network classes old) 401 415 old new fault (omega arith)
      (refused_why network classes old new fault why) means;
  text_is = refl;
}

pub certificate_answered : (network : NetworkDocument) (classes : List Class) (old new : Lines) (fault : Fault)
    (before after : Option (List ℕ)) (result : Result Answer Fault) → IsCertificateRefused network classes old new fault
    → IsReportedBy old fault
    → IfOk result (λ a. (a ≡ No) × MeansNo fault.number × Writes before after (no_line fault))
    → IfOk result (λ a. Prints (IsAnswered network classes old a) before after)
certificate_answered network classes old new fault before after result why reported h =
    answered_no (IsAnswered network classes old) 401 415 fault before after result
    (no_of network classes old new fault why reported) h

pub certificate_refused : (network : NetworkDocument) (classes : List Class) (old new : Lines) (fault : Fault)
    (failed : Bool) (result : Result Answer Fault) → IsCertificateRefused network classes old new fault
    → IfErr result (IsPassedOn 401 415 fault failed)
    → IfErr result (λ e. (e ≡ fault_at 900 places.None)
    ⊎ (Fails old new e ⊎ (IsWriteFault failed e ⊎ IsRefusedCertificate network classes old e)))
certificate_refused network classes old new fault failed result why h =
    refused_otherwise (IsRefusedText network classes old) 401 415 old new fault failed result
    (refused_why network classes old new fault why) h

pub passed_unanswered : (lines : Lines) (fault : Fault) (failed : Bool) (result : Result Answer Fault)
    → IsReportedBy lines fault → IfErr result (IsPassedOn 401 415 fault failed) → IfErr result (IsUnanswered lines)
passed_unanswered lines fault failed (Ok a) reported h = tt
passed_unanswered lines fault failed (Err e) reported (inr w) = from_write lines e w.0
passed_unanswered lines fault failed (Err e) reported (inl k) =
    subst (IsUnanswered lines) (sym k.0) (unanswered lines fault reported k.1)

pub or_unanswered : (P : Type 0) (lines : Lines) (result : Result Answer Fault) → IfErr result (IsUnanswered lines)
    → IfErr result (λ e. P ⊎ IsUnanswered lines e)
or_unanswered P lines (Ok a) h = tt
or_unanswered P lines (Err e) h = inr h
