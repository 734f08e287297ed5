-- How reading continues from line to line.
use Rattle.std.specs.Prelude.{◌≡◌, ℕ, List, [], ◌∷◌, Ok, Err}
use Rattle.fx_base.specs.declared.fault.Fault.{Fault}
use Rattle.fx_base.specs.Device.{MayBeLeft, MayHaveLeft}
use Rattle.fx_base.specs.Lines.{Lines, text_lines, next_number}
use Rattle.fx_base.specs.Refusals.{refutation_form}
use Rattle.fx_run_text.specs.declared.text_version.TextVersion.{TextVersion}
use Rattle.fx_run_text.specs.declared.run_line.RunLine.{RunLine}
use Rattle.fx_run_text.specs.RunReading.{TextLine, at_line}
use Rattle.fx_refute.specs.RefutationReading.{Read, line_said}

-- for every possible rest, the second reading of it equals the first reading of a text that may have been left before
abbrev pub Leads : Lines → Lines → (List TextLine → Read) → (List TextLine → Read) → Type 0
Leads old new before after =
    (rest : List ℕ) → MayBeLeft new.left rest
    → MayHaveLeft old.left (λ text. before (text_lines text) ≡ after (text_lines rest))

-- the reader passes one line, and that line says this
pub record Says (version : TextVersion) (old new : Lines) (x : RunLine) : Type 0 where
  pub number : new.number ≡ next_number old.number
  pub line : (rest : List ℕ) → MayBeLeft new.left rest
      → MayHaveLeft old.left (λ text. (l : TextLine) × (text_lines text ≡ l ∷ text_lines rest)
      × (line_said version l ≡ Ok x))

-- the first of these lines, which follow line n, is missing or isn't well-formed
abbrev pub FirstIsWrong : TextVersion → ℕ → Fault → List TextLine → Type 0
FirstIsWrong version n e [] = e ≡ at_line refutation_form (next_number n)
FirstIsWrong version n e (l ∷ ls) = (number : ℕ) × (line_said version l ≡ Err number)
    × (e ≡ at_line number (next_number n))

abbrev pub NextIsWrong : TextVersion → Lines → Fault → Type 0
NextIsWrong version lines e = MayHaveLeft lines.left (λ text. FirstIsWrong version lines.number e (text_lines text))
