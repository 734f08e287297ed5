-- What the check of a certificate answers, and what it prints.
use Rattle.std.specs.Prelude.{◌≡◌, ◌⊎◌, ℕ, ◌≤◌, List, [], ◌∷◌, ◌++◌, codes, Option, Some, None}
use Rattle.fx_base.specs.declared.fault.Fault.{Fault}
use Rattle.fx_base.specs.declared.fault.Place.TheVariants as places
use Rattle.fx_base.specs.Device.{MayHaveLeft}
use Rattle.fx_base.specs.Fault.{fault_at, fault_text}
use Rattle.fx_base.specs.Lines.{Lines, text_lines}
use Rattle.fx_base.specs.Refusals.{certificate_first, certificate_last, failed_read, failed_write, long_line, want_of_memory}
use Rattle.fx_machine.specs.Claim.{ExactlyOnce, OnceModulo}
use Rattle.fx_tables.specs.Classes.{Class}
use Rattle.fx_topology.specs.declared.network.NetworkDocument.{NetworkDocument}
use Rattle.fx_plan.specs.Tables.{net_of}
use Rattle.fx_check.specs.Judging.{judge_of}
use Rattle.fx_check.specs.Outcomes.{MayBeAccepted, MayBeCertificate}
use Rattle.fx_traffic.specs.Targets.{targets_of}
use Rattle.fx_check.specs.FirstRefusal.{Refusal, first_refusal, whole}
use Rattle.fx_checker.specs.Documents.{InDocuments, IsRefusedIn}
use Rattle.fx_checker.specs.declared.answer.Answer.{Answer}
use Rattle.fx_checker.specs.declared.answer.Answer.TheVariants.{Yes, No, Unknown}

-- ---- what is printed

abbrev pub yes_line : List ℕ
yes_line = codes "yes" ++ 10 ∷ []

abbrev pub no_line : Fault → List ℕ
no_line e = codes "no " ++ (fault_text e ++ 10 ∷ [])

-- ---- what is answered

-- the number is in the range
abbrev pub IsWithin : ℕ → ℕ → ℕ → Type 0
IsWithin first last number = (first ≤ number) × (number ≤ last)

-- a refusal with this number means that the answer is no
abbrev pub MeansNo : ℕ → Type 0
MeansNo number = IsWithin certificate_first certificate_last number

abbrev pub IsFaultOf : Fault → Option Refusal → Type 0
IsFaultOf e None = ⊥
IsFaultOf e (Some r) = e ≡ r.fault

-- the first refusal of a certificate for these classes in a network, for a text that the reader may have left
abbrev pub IsRefusedText : NetworkDocument → List Class → Lines → Fault → Type 0
IsRefusedText network classes lines e =
    MayHaveLeft lines.left (λ text. IsFaultOf e
    (first_refusal (judge_of (net_of network)) lines.number 0 (whole (targets_of classes)) (text_lines text)))

-- each packet is counted exactly once, and also once modulo 2 to the 64, however large the sums are; the certificate
-- shows it, and no line of it is refused
pub record IsYes (network : NetworkDocument) (classes : List Class) (lines : Lines) (text : List ℕ) : Type 0 where
  pub once : ExactlyOnce (net_of network) classes
  pub modulo : OnceModulo (net_of network) classes
  pub certificate : MayBeCertificate (net_of network) classes lines
  pub accepted : MayBeAccepted (net_of network) (targets_of classes) lines
  pub text_is : text ≡ yes_line

-- the certificate is refused at a line, with a number that means no; or the reader had already stopped with such a
-- fault
pub record IsNo (network : NetworkDocument) (classes : List Class) (lines : Lines) (text : List ℕ) : Type 0 where
  pub fault : Fault
  pub means_no : MeansNo fault.number
  pub place : (lines.stopped ≡ Some fault) ⊎ ((line : ℕ) × (fault.place ≡ places.Line line))
  pub refused : (lines.stopped ≡ Some fault) ⊎ IsRefusedText network classes lines fault
  pub text_is : text ≡ no_line fault

-- the answer for a certificate in this network and traffic, and the text that is printed
abbrev pub IsAnswered : NetworkDocument → List Class → Lines → Answer → List ℕ → Type 0
IsAnswered network classes lines Yes text = IsYes network classes lines text
IsAnswered network classes lines No text = IsNo network classes lines text
IsAnswered network classes lines Unknown text = ⊥

-- the certificate is refused with a number that doesn't mean no
abbrev pub IsRefusedCertificate : NetworkDocument → List Class → Lines → Fault → Type 0
IsRefusedCertificate network classes lines e = IsRefusedText network classes lines e × (MeansNo e.number → ⊥)

-- the faults with which a check ends without an answer, once it has requested a line of the certificate: out of memory,
-- a failed read or write, or a line that is too long
pub data IsNoAnswer : Fault → Type 0 where
  memory : IsNoAnswer (fault_at want_of_memory places.None)
  read_failed : IsNoAnswer (fault_at failed_read places.None)
  write_failed : IsNoAnswer (fault_at failed_write places.None)
  too_long : (line : ℕ) → IsNoAnswer (fault_at long_line (places.Line line))

-- such a fault, or the fault with which the reader had already stopped
abbrev pub IsUnanswered : Lines → Fault → Type 0
IsUnanswered lines e = (lines.stopped ≡ Some e) ⊎ IsNoAnswer e

-- ---- a check of octets

-- the answer for a certificate in the network and traffic that two documents declare
abbrev pub IsChecked : List ℕ → List ℕ → Lines → Answer → List ℕ → Type 0
IsChecked network_octets traffic_octets lines answer text =
    InDocuments (λ network classes. IsAnswered network classes lines answer text) network_octets traffic_octets

-- the first refusal of a check that isn't an answer: that of the documents, otherwise that of the certificate
abbrev pub IsRefusedCheck : List ℕ → List ℕ → Lines → Fault → Type 0
IsRefusedCheck network_octets traffic_octets lines e =
    IsRefusedIn (λ network classes. IsRefusedCertificate network classes lines e) network_octets traffic_octets e

-- a check prints `yes` or `no`, according to its answer
abbrev pub IsCheckText : Answer → List ℕ → Type 0
IsCheckText Yes text = text ≡ yes_line
IsCheckText No text = (e : Fault) × MeansNo e.number × (text ≡ no_line e)
IsCheckText Unknown text = ⊥
