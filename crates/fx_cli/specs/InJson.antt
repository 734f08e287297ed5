-- How the program ends when it answers with a JSON object.
use Rattle.std.specs.Prelude.{◌≡◌, ◌⊎◌, ℕ, Bool, List, [], ◌∷◌, ◌++◌, Option, Some, Ok, codes}
use Rattle.fx_base.specs.Device.{KeepsGoing}
use Rattle.fx_base.specs.declared.fault.Fault.{Fault}
use Rattle.fx_base.specs.declared.fault.Place.{Place}
use Rattle.fx_checker.specs.declared.answer.Answer.{Answer}
use Rattle.fx_json_answers.specs.Answers.{WritesAnswer}
use Rattle.fx_checker.specs.Ending.{EndsWith, refusal_line, refusal_status, status}

-- the object that is written when out of memory
abbrev pub memory_object : List ℕ
memory_object = codes "{\"answer\":\"memory\",\"format\":\"once-answer/1\",\"number\":900,\"status\":4}" ++ 10 ∷ []

-- the object of some command's answer that has this status and prints this text
abbrev pub WritesObject : ℕ → List ℕ → Option (List ℕ) → Option (List ℕ) → Type 0
WritesObject code text old new =
    (command : List ℕ) × (answer : List ℕ) × (number : Option ℕ) × (place : Place)
    × WritesAnswer command answer code number place text old new

-- the object of some command's refusal, with its number and its place as members
abbrev pub WritesRefusal : ℕ → Fault → List ℕ → Option (List ℕ) → Option (List ℕ) → Type 0
WritesRefusal code e text old new = (command : List ℕ) × (answer : List ℕ)
    × WritesAnswer command answer code (Some e.number) e.place text old new

-- the object is written, and the program ends with the status in it; or it runs out of memory, or a write fails
abbrev pub EndsAnswered : {S : Type 0} → (S → Option (List ℕ)) → (S → Bool) → ℕ → List ℕ → S → S → ℕ → Type 0
EndsAnswered taken failed code text old new result =
    ((result ≡ code) × WritesObject code text (taken old) (taken new) × KeepsGoing (failed old) (failed new))
    ⊎ EndsWith taken failed memory_object 4 old new result

abbrev pub EndsRefused : {S : Type 0} → (S → Option (List ℕ)) → (S → Bool) → ℕ → Fault → List ℕ → S → S → ℕ → Type 0
EndsRefused taken failed code e text old new result =
    ((result ≡ code) × WritesRefusal code e text (taken old) (taken new) × KeepsGoing (failed old) (failed new))
    ⊎ EndsWith taken failed memory_object 4 old new result

-- How the program ends: with the object of an answer, whose member `output` is the answer's text, and that answer's
-- status; with the object of a refusal that is possible here and that refusal's status; or out of memory or after a
-- failed write.
abbrev pub EndsInJson : {S : Type 0} → (Answer → List ℕ → Type 0) → (Fault → Type 0) → (S → Option (List ℕ))
    → (S → Bool) → S → S → ℕ → Type 0
EndsInJson IsText IsRefused taken failed old new code =
    ((answer : Answer) × (text : List ℕ) × IsText answer text
    × EndsAnswered taken failed (status (Ok answer)) text old new code)
    ⊎ (((e : Fault) × IsRefused e × EndsRefused taken failed (refusal_status e) e (refusal_line e) old new code)
    ⊎ EndsWith taken failed memory_object 4 old new code)
