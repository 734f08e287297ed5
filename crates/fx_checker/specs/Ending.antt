-- How a command ends: the line of a refusal, and the program's exit status.
use Rattle.std.specs.Prelude.{◌≡◌, ◌⊎◌, ℕ, ◌≤◌, ◌==◌, ◌||◌, List, [], ◌∷◌, ◌++◌, codes, if◌then◌else◌, Option, Result, Ok, Err, Bool, true, false}
use Rattle.std.specs.Fmt.{decimal}
use Rattle.fx_base.specs.Device.{Writes}
use Rattle.fx_base.specs.declared.fault.Fault.{Fault}
use Rattle.fx_base.specs.Fault.{fault_text}
use Rattle.fx_base.specs.Refusals.{failed_read, failed_write, want_of_memory}
use Rattle.fx_checker.specs.declared.answer.Answer.{Answer}
use Rattle.fx_checker.specs.declared.answer.Answer.TheVariants.{Yes, No, Unknown}

abbrev pub is_device : ℕ → Bool
is_device number = number == failed_read || number == failed_write

-- `memory 900`, `device 901` or `device 902`, otherwise `refused` with the number and the place
abbrev pub refusal_line : Fault → List ℕ
refusal_line fault =
    if fault.number == want_of_memory then codes "memory 900" ++ 10 ∷ []
    else (if is_device fault.number then codes "device " ++ (decimal fault.number ++ 10 ∷ [])
    else codes "refused " ++ (fault_text fault ++ 10 ∷ []))

abbrev pub refusal_status : Fault → ℕ
refusal_status fault = if fault.number == want_of_memory then 4 else (if is_device fault.number then 5 else 2)

abbrev pub status : Result Answer Fault → ℕ
status (Ok Yes) = 0
status (Ok No) = 1
status (Ok Unknown) = 3
status (Err fault) = refusal_status fault

-- The program appends this text to its output and ends with this status; or it ends with 5 because that write failed.
abbrev pub EndsWith : {S : Type 0} → (S → Option (List ℕ)) → (S → Bool) → List ℕ → ℕ → S → S → ℕ → Type 0
EndsWith taken failed text wanted old new code =
    ((code ≡ wanted) × Writes (taken old) (taken new) text × (failed old ≡ false → failed new ≡ false))
    ⊎ ((code ≡ 5) × (failed new ≡ true))

-- the exit statuses of the program
abbrev pub IsExitStatus : ℕ → Type 0
IsExitStatus code = code ≤ 6
