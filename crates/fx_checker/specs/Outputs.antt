-- What a command has written when it answers, and when it fails.
use Rattle.std.specs.Prelude.{◌≡◌, ◌⊎◌, ℕ, Bool, List, Option, Result, IfOk, IfErr, OnOk}
use Rattle.fx_base.specs.Device.{IsWriteFault, KeepsGoing, Writes}
use Rattle.fx_base.specs.Fault.{IsMemory}
use Rattle.fx_base.specs.declared.fault.Fault.{Fault}
use Rattle.fx_checker.specs.declared.answer.Answer.{Answer}

-- octets that satisfy the predicate are written
abbrev pub Prints : (List ℕ → Type 0) → Option (List ℕ) → Option (List ℕ) → Type 0
Prints IsText old new = (text : List ℕ) × IsText text × Writes old new text

-- with a result no write has failed; with a fault nothing is written, or a write has failed
abbrev pub FailsQuietly : {S A : Type 0} → (S → Bool) → S → S → Result A Fault → Type 0
FailsQuietly failed old new result =
    OnOk result (KeepsGoing (failed old) (failed new)) × IfErr result (λ e. IsWriteFault (failed new) e ⊎ (new ≡ old))

-- an answer comes with a text for that answer, a fault with no text
abbrev pub AnswersWith : {S : Type 0} → (S → Option (List ℕ)) → (S → Bool) → (Answer → List ℕ → Type 0) → S → S
    → Result Answer Fault → Type 0
AnswersWith taken failed IsText old new result =
    IfOk result (λ answer. Prints (IsText answer) (taken old) (taken new)) × FailsQuietly failed old new result

-- why a command over two documents and a text fails: out of memory, an input that can't be read, output that can't be
-- written, or a refusal
abbrev pub FailsBy : (Fault → Type 0) → (Fault → Type 0) → (Fault → Type 0) → Bool → (Fault → Type 0) → Fault → Type 0
FailsBy Network Traffic Text failed Refused e =
    IsMemory e ⊎ (Network e ⊎ (Traffic e ⊎ (Text e ⊎ (IsWriteFault failed e ⊎ Refused e))))
