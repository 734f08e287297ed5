-- The results of a check, besides the faults that its reader of lines returns itself.
use Rattle.std.specs.Prelude.{◌≡◌, ℕ, ◌≤◌, ◌⊎◌, List, Option, Some, None}
use Rattle.fx_base.specs.declared.fault.Fault.{Fault}
use Rattle.fx_base.specs.declared.fault.Place.TheVariants as places
use Rattle.fx_base.specs.Device.{MayBeLeft, MayHaveLeft}
use Rattle.fx_base.specs.Fault.{fault_at}
use Rattle.fx_base.specs.Lines.{Lines, text_lines, Fails}
use Rattle.fx_base.specs.Refusals.{certificate_first, certificate_last, failed_read, long_line, want_of_memory}
use Rattle.fx_tables.specs.Classes.{Class}
use Rattle.fx_tables.specs.Network.{Net}
use Rattle.fx_traffic.specs.Targets.{Target}
use Rattle.fx_check.specs.Certificates.{IsCertificate}
use Rattle.fx_check.specs.Judging.{Judge, judge_of}
use Rattle.fx_check.specs.FirstRefusal.{Goal, Refusal, whole, first_refusal}

-- the reader continues after the refused line, unless the reader itself refused a line that is too long
abbrev pub StandsBehind : Lines → Refusal → Type 0
StandsBehind lines r =
    ((r.fault.number ≡ long_line) × (lines.stopped ≡ Some r.fault))
    ⊎ ((lines.stopped ≡ None) × (lines.number ≡ r.last)
    × MayHaveLeft lines.left (λ text. text_lines text ≡ r.behind))

abbrev pub IsRefusal : Fault → Lines → Option Refusal → Type 0
IsRefusal e lines None = ⊥
IsRefusal e lines (Some r) = (e ≡ r.fault) × StandsBehind lines r

-- a text that the reader may have left has no refusal as a certificate for the targets
abbrev pub MayBeAccepted : Net → List Target → Lines → Type 0
MayBeAccepted net targets lines =
    MayHaveLeft lines.left (λ text. first_refusal (judge_of net) lines.number 0 (whole targets) (text_lines text)
    ≡ None)

-- a text that the reader may have left is a certificate for the classes
abbrev pub MayBeCertificate : Net → List Class → Lines → Type 0
MayBeCertificate net classes lines = MayHaveLeft lines.left (λ text. IsCertificate net classes (text_lines text))

-- a text that the reader may have left has this fault as its first refusal, and the reader continues after it
abbrev pub MayBeRefused : Net → List Target → Lines → Lines → Fault → Type 0
MayBeRefused net targets old new e =
    MayHaveLeft old.left (λ text. IsRefusal e new
    (first_refusal (judge_of net) old.number 0 (whole targets) (text_lines text)))

-- given the text of a certificate, the check fails only out of memory, before it reads a line, or as its reader fails
abbrev pub Accepts : Net → List Class → Lines → Lines → Fault → Type 0
Accepts net classes old new e =
    (text : List ℕ) → old.left ≡ Some text → IsCertificate net classes (text_lines text)
    → ((e ≡ fault_at want_of_memory places.None) × (new ≡ old)) ⊎ Fails old new e

-- ---- during a check

-- for every possible rest, its first refusal with these remaining goals is that of a text that may have been left at
-- first
abbrev pub Continues : Judge → Lines → List Goal → Lines → ℕ → List Goal → Type 0
Continues judge first all now made gs =
    (rest : List ℕ) → MayBeLeft now.left rest
    → MayHaveLeft first.left (λ text. first_refusal judge first.number 0 all (text_lines text)
    ≡ first_refusal judge now.number made gs (text_lines rest))

-- ---- numbers

-- the numbers of the faults of a certificate
abbrev pub IsCertificateNumber : ℕ → Type 0
IsCertificateNumber number = (certificate_first ≤ number) × (number ≤ certificate_last)

-- out of memory, a source that failed, a line that is too long, or a fault of the certificate at a line
pub data IsCheckFault : Fault → Type 0 where
  memory : IsCheckFault (fault_at want_of_memory places.None)
  device : IsCheckFault (fault_at failed_read places.None)
  too_long : (line : ℕ) → IsCheckFault (fault_at long_line (places.Line line))
  wrong : (number line : ℕ) → IsCertificateNumber number → IsCheckFault (fault_at number (places.Line line))

-- such a fault, or the fault with which the reader had already stopped
abbrev pub IsReportedBy : Lines → Fault → Type 0
IsReportedBy lines e = (lines.stopped ≡ Some e) ⊎ IsCheckFault e
