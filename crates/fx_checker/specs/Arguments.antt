-- How a program ends when its arguments can't be read, and the arguments of the checker's own program.
use Rattle.std.specs.Prelude.{◌≢◌, ℕ, ◌||◌, Bool, true, false, List, [], ◌∷◌, ◌++◌, codes, Option}
use Rattle.std.specs.Str.{bytes_eq}
use Rattle.std.specs.declared.io.ErrorKind.{ErrorKind as Failure}
use Rattle.std.specs.declared.io.ErrorKind.TheVariants as failure
use Rattle.fx_base.specs.Fault.{fault_at}
use Rattle.fx_base.specs.declared.fault.Place.TheVariants as places
use Rattle.fx_base.specs.Refusals.{failed_read, want_of_memory}
use Rattle.fx_checker.specs.Ending.{EndsWith, refusal_line}

abbrev pub memory_line : List ℕ
memory_line = refusal_line (fault_at want_of_memory places.None)

-- the status when the system doesn't hand over the arguments: out of memory, an argument that isn't text, or else a
-- failed device
abbrev pub unread_status : Failure → ℕ
unread_status failure.OutOfMemory = 4
unread_status failure.InvalidData = 6
unread_status _ = 5

abbrev pub unread_text : Failure → List ℕ
unread_text failure.OutOfMemory = memory_line
unread_text failure.InvalidData = codes "error: an argument is not UTF-8 text" ++ (10 ∷ 10 ∷
    (codes "what to do: Name each file in UTF-8: rename it, or name a link to it." ++ 10 ∷ []))
unread_text _ = refusal_line (fault_at failed_read places.None)

-- some non-empty text is written, and the program ends with this status
abbrev pub EndsWithSomeText : {S : Type 0} → (S → Option (List ℕ)) → (S → Bool) → ℕ → S → S → ℕ → Type 0
EndsWithSomeText taken failed wanted old new code = (text : List ℕ) × (text ≢ [])
    × EndsWith taken failed text wanted old new code

-- ---- the arguments of the checker's own program

-- the only argument after the program's own name is `--help` or `-h`
abbrev pub is_help_request : {A : Type 0} → (A → List ℕ) → List A → Bool
is_help_request text_of (program ∷ word ∷ []) =
    bytes_eq (text_of word) (codes "--help") || bytes_eq (text_of word) (codes "-h")
is_help_request text_of arguments = false

-- the status of arguments that name no check: 0 if help is requested, otherwise 6
abbrev pub usage_status : Bool → ℕ
usage_status true = 0
usage_status false = 6
