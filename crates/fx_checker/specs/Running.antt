-- How a program that checks a certificate ends.
use Rattle.std.specs.Prelude.{◌≡◌, ◌⊎◌, true, ℕ, Bool, List, Ok, None, Option}
use Rattle.fx_base.specs.Device.{Writes}
use Rattle.fx_base.specs.Fault.{fault_at, IsMemory}
use Rattle.fx_base.specs.declared.fault.Fault.{Fault}
use Rattle.fx_base.specs.declared.fault.Place.TheVariants as places
use Rattle.fx_base.specs.Lines.{Lines}
use Rattle.fx_base.specs.Refusals.{failed_read, failed_write}
use Rattle.fx_checker.specs.declared.answer.Answer.{Answer}
use Rattle.fx_checker.specs.Checks.{IsChecked, IsRefusedCheck}
use Rattle.fx_checker.specs.Ending.{refusal_line, refusal_status, status}

-- a reader of lines that has read none yet
abbrev pub IsAtBeginning : Lines → Type 0
IsAtBeginning lines = (lines.stopped ≡ None) × (lines.number ≡ 0)

-- possible contents of two documents, and a third text that is read line by line from its beginning, satisfy the
-- predicate
abbrev pub ForSomeTexts : (List ℕ → List ℕ → Lines → Type 0) → Type 0
ForSomeTexts P = (network : List ℕ) × (traffic : List ℕ) × (lines : Lines) × IsAtBeginning lines
    × P network traffic lines

abbrev pub IsCheckOutput : Answer → List ℕ → Type 0
IsCheckOutput answer text = ForSomeTexts (λ network traffic lines. IsChecked network traffic lines answer text)

abbrev pub IsCheckRefusal : Fault → Type 0
IsCheckRefusal e = ForSomeTexts (λ network traffic lines. IsRefusedCheck network traffic lines e)

-- out of memory, a device that can't be read, or one of the command's own refusals
abbrev pub IsRefusal : (Fault → Type 0) → Fault → Type 0
IsRefusal IsOwn e = IsMemory e ⊎ ((e ≡ fault_at failed_read places.None) ⊎ IsOwn e)

-- The final state of the output: its last call failed, or a call failed and then the line that reports this was
-- written.
abbrev pub HasFailedToWrite : {S : Type 0} → (S → Option (List ℕ)) → (S → Bool) → S → Type 0
HasFailedToWrite {S} taken failed new = (failed new ≡ true)
    ⊎ ((then : S) × (failed then ≡ true) × Writes (taken then) (taken new)
    (refusal_line (fault_at failed_write places.None)))

-- How the program ends: with the text of an answer and that answer's status; with the line of a refusal that is
-- possible here, and nothing else, and that refusal's status; or with 5 if a write failed. In the first two cases
-- `Going` says that no write failed.
abbrev pub EndsAs : (Answer → List ℕ → Type 0) → (Fault → Type 0) → Option (List ℕ) → Option (List ℕ) → Type 0 → Type 0
    → ℕ → Type 0
EndsAs IsText IsRefused old new Going Failed code =
    (Going × ((answer : Answer) × (text : List ℕ) × IsText answer text × Writes old new text
    × (code ≡ status (Ok answer))))
    ⊎ ((Going × ((e : Fault) × IsRefused e × Writes old new (refusal_line e) × (code ≡ refusal_status e)))
    ⊎ ((code ≡ 5) × Failed))
