-- How the text of a refutation is read.
use Rattle.std.specs.Prelude.{◌≡◌, ℕ, ◌&&◌, nat_lt, if◌then◌else◌, List, [], ◌∷◌, ◌++◌, length, codes, Option, Some, None, Result, Ok, Err}
use Rattle.std.specs.Str.{bytes_eq}
use Rattle.fx_base.specs.declared.fault.Fault.{Fault}
use Rattle.fx_base.specs.Device.{MayHaveLeft}
use Rattle.fx_base.specs.Lines.{Lines, text_lines, next_number}
use Rattle.fx_base.specs.Refusals.{long_line, refutation_form}
use Rattle.fx_tables.specs.declared.packet.Packet.{Packet}
use Rattle.fx_run_text.specs.declared.step.Step.{Step}
use Rattle.fx_run_text.specs.declared.text_version.TextVersion.{TextVersion}
use Rattle.fx_run_text.specs.declared.text_version.TextVersion.TheVariants.{One, Two}
use Rattle.fx_run_text.specs.declared.run_line.RunLine.{RunLine}
use Rattle.fx_run_text.specs.declared.run_line.RunLine.TheVariants as line
use Rattle.fx_run_text.specs.RunReading.{TextLine, at_line, line_of}
use Rattle.fx_elements.specs.Words.{words}
use Rattle.fx_machine.specs.Limits.{step_limit}
use Rattle.fx_refute.specs.Refutations.{Refutation}

abbrev pub line_or_fault : Option RunLine → Result RunLine ℕ
line_or_fault None = Err refutation_form
line_or_fault (Some x) = Ok x

-- what a line says, or the number of its fault
abbrev pub line_said : TextVersion → TextLine → Result RunLine ℕ
line_said version l =
    if nat_lt 4096 (length l.0) then Err long_line
    else if l.1 then line_or_fault (line_of version (words l.0)) else Err refutation_form

abbrev pub Read : Type 0
Read = Result Refutation Fault

abbrev pub only : Packet → Refutation
only p = record { packet = p; steps = [] }

abbrev pub with_step : Refutation → Step → Refutation
with_step r s = record { packet = r.packet; steps = r.steps ++ s ∷ [] }

-- no line may follow the last one, which has the number n
abbrev pub end_of_lines : ℕ → Refutation → List TextLine → Read
end_of_lines n r [] = Ok r
end_of_lines n r (l ∷ ls) = Err (at_line (if nat_lt 4096 (length l.0) then long_line else refutation_form)
    (next_number n))

-- line n, after the packet's line: another step, if there may be one, or the end; `next` reads the lines after it
abbrev pub from_step : ℕ → Refutation → Result RunLine ℕ → List TextLine → (Refutation → Read) → Read
from_step n r (Err number) ls next = Err (at_line number n)
from_step n r (Ok (line.Packet p)) ls next = Err (at_line refutation_form n)
from_step n r (Ok (line.Step s)) ls next =
    if nat_lt (length r.steps) step_limit then next (with_step r s) else Err (at_line refutation_form n)
from_step n r (Ok line.End) ls next = end_of_lines n r ls

-- the refutation that the lines after line n complete, or the first fault
abbrev pub steps_behind : TextVersion → ℕ → Refutation → List TextLine → Read
steps_behind version n r [] = Err (at_line refutation_form (next_number n))
steps_behind version n r (l ∷ ls) =
    from_step (next_number n) r (line_said version l) ls (λ x. steps_behind version (next_number n) x ls)

-- line n, which must be the packet's, and the lines after it
abbrev pub from_packet : TextVersion → ℕ → Result RunLine ℕ → List TextLine → Read
from_packet version n (Err number) ls = Err (at_line number n)
from_packet version n (Ok (line.Packet p)) ls = steps_behind version n (only p) ls
from_packet version n (Ok (line.Step s)) ls = Err (at_line refutation_form n)
from_packet version n (Ok line.End) ls = Err (at_line refutation_form n)

abbrev pub packet_behind : TextVersion → ℕ → List TextLine → Read
packet_behind version n [] = Err (at_line refutation_form (next_number n))
packet_behind version n (l ∷ ls) = from_packet version (next_number n) (line_said version l) ls

-- the refutation whose text has these lines, the first of which follows line n, or the first fault
abbrev pub refutation_in : ℕ → List TextLine → Read
refutation_in n [] = Err (at_line refutation_form (next_number n))
refutation_in n (l ∷ ls) =
    if nat_lt 4096 (length l.0) then Err (at_line long_line (next_number n))
    else if l.1 && bytes_eq l.0 (codes "once-refutation 1") then packet_behind One (next_number n) ls
    else if l.1 && bytes_eq l.0 (codes "once-refutation 2") then packet_behind Two (next_number n) ls
    else Err (at_line refutation_form (next_number n))

-- the result of a reading of the lines of a text that the reader may have left
abbrev pub MayGive : Lines → (List TextLine → Read) → Read → Type 0
MayGive lines read result = MayHaveLeft lines.left (λ text. read (text_lines text) ≡ result)

-- the result of reading a refutation from such a text
abbrev pub MayReadRefutation : Lines → Read → Type 0
MayReadRefutation lines result = MayGive lines (refutation_in lines.number) result
