-- How the program ends that answers with a JSON object of what it would print.
use Rattle.std.proofs.Common.{◌≡◌, ◌⊎◌, ◌∙◌, ℕ, Bool, true, false, sym, ap, subst, List, [], ◌++◌, Option, Some, inl, inr, true≢false}
use Rattle.std.specs.Prelude.{IfErr, IfOk, Result, Ok, Err, unwrap_or}
use Rattle.clap.specs.Words.{Text}
use Rattle.fx_base.specs.Device.{IsWriteFault, Writes}
use Rattle.fx_base.specs.declared.fault.Fault.{Fault}
use Rattle.fx_checker.specs.Outputs.{AnswersWith}
use Rattle.fx_checker.specs.declared.answer.Answer.{Answer}
use Rattle.fx_json_answers.specs.declared.buffer.TextBuffer.{TextBuffer}
use Rattle.fx_command_line.specs.Words.{Names}
use Rattle.fx_command_line.specs.declared.words.Call.{Call}
use Rattle.fx_checker.specs.Ending.{EndsWith, refusal_line, refusal_status, status}
use Rattle.fx_cli.specs.InJson.{EndsAnswered, EndsInJson, EndsRefused, memory_object}
use Rattle.fx_cli.specs.Running.{IsCallRefusal, IsCallText}
use Rattle.fx_cli.proofs.CallOutputs.{same_refusal, same_text}

abbrev text_of : TextBuffer → Option (List ℕ)
text_of buffer = Some buffer.octets.items

abbrev has_failed : TextBuffer → Bool
has_failed buffer = buffer.failed

-- all that was written to an empty buffer
all_written : (old new : List ℕ) (text : List ℕ) → old ≡ [] → Writes (Some old) (Some new) text → new ≡ text
all_written old new text empty written = ap (λ (o : Option (List ℕ)). unwrap_or o []) written
    ∙ ap (λ (before : List ℕ). before ++ text) empty

-- the text of an answer is in the buffer, or nothing is and the line of a refusal is to follow, unless a write to the
-- buffer failed
pub ended_in_json : {S : Type 0} (taken : S → Option (List ℕ)) (failed : S → Bool) (IsText : Answer → List ℕ → Type 0)
    (IsRefused : Fault → Type 0) (r : Result Answer Fault) (first then : TextBuffer) (old new : S) (result : ℕ)
    → first.octets.items ≡ []
    → AnswersWith text_of has_failed IsText first then r
    → IfErr r (λ e. IsWriteFault then.failed e ⊎ IsRefused e)
    → (then.failed ≡ true → EndsWith taken failed memory_object 4 old new result)
    → IfOk r (λ _. EndsAnswered taken failed (status r) then.octets.items old new result)
    → IfErr r (λ e. EndsRefused taken failed (refusal_status e) e (then.octets.items ++ refusal_line e) old new result)
    → EndsInJson IsText IsRefused taken failed old new result
ended_in_json {S} taken failed IsText IsRefused (Ok answer) first then old new result empty
    ((text, is, reported), (going, quiet)) why short answered refused =
    inl (
      answer,
      text,
      is,
      subst (λ (t : List ℕ). EndsAnswered taken failed (status (Ok answer)) t old new result)
          (all_written first.octets.items then.octets.items text empty reported) answered,
    )
ended_in_json {S} taken failed IsText IsRefused (Err e) first then old new result empty answers (inl (is, fails)) short
    answered refused = inr (inr (short fails))
ended_in_json {S} taken failed IsText IsRefused (Err e) first then old new result empty
    (reported, (going, inl (is, fails))) (inr why) short answered refused = inr (inr (short fails))
ended_in_json {S} taken failed IsText IsRefused (Err e) first then old new result empty
    (reported, (going, inr unchanged)) (inr why) short answered refused =
    let none : then.octets.items ≡ [] = ap (λ (b : TextBuffer). b.octets.items) unchanged ∙ empty in
    inr (inl (
      e,
      why,
      subst (λ (before : List ℕ). EndsRefused taken failed (refusal_status e) e
          (before ++ refusal_line e) old new result) none refused,
    ))

-- a buffer's text is written on with the line of a refusal
pub line_added : {S : Type 0} (taken : S → Option (List ℕ)) (failed : S → Bool) (r : Result Answer Fault)
    (before after : TextBuffer) (old new : S) (code result : ℕ)
    → IfErr r (λ e. EndsWith text_of has_failed (refusal_line e) (refusal_status e) before after code)
    → after.failed ≡ false
    → IfErr r (λ e. EndsRefused taken failed code e after.octets.items old new result)
    → IfErr r (λ e. EndsRefused taken failed (refusal_status e) e (before.octets.items ++ refusal_line e) old new
    result)
line_added taken failed (Ok answer) before after old new code result ends fine refused = tt
line_added taken failed (Err e) before after old new code result (inl (code_is, line, keeps)) fine refused =
    let all : after.octets.items ≡ before.octets.items ++ refusal_line e =
    ap (λ (o : Option (List ℕ)). unwrap_or o []) line in
    subst (λ (t : List ℕ). EndsRefused taken failed (refusal_status e) e t old new result) all
    (subst (λ (n : ℕ). EndsRefused taken failed n e after.octets.items old new result) code_is refused)
line_added taken failed (Err e) before after old new code result (inr (five, fails)) fine refused =
    absurd (true≢false (sym fails ∙ fine))

-- a buffer's text stays as it is
pub text_kept : {S : Type 0} (taken : S → Option (List ℕ)) (failed : S → Bool) (r : Result Answer Fault)
    (before after : TextBuffer) (old new : S) (code result : ℕ)
    → IfOk r (λ _. (code ≡ status r) × (after ≡ before))
    → IfOk r (λ _. EndsAnswered taken failed code after.octets.items old new result)
    → IfOk r (λ _. EndsAnswered taken failed (status r) before.octets.items old new result)
text_kept taken failed (Ok answer) before after old new code result (code_is, same) answered =
    subst (λ (b : TextBuffer). EndsAnswered taken failed (status (Ok answer)) b.octets.items old new result) same
    (subst (λ (n : ℕ). EndsAnswered taken failed n after.octets.items old new result) code_is answered)
text_kept taken failed (Err e) before after old new code result kept answered = tt

-- a program that ends as one call of the arguments does ends as any does
pub ends_in_json_as : {S : Type 0} (words : List Text) (one other : Call) → Names words one → Names words other
    → (taken : S → Option (List ℕ)) (failed : S → Bool) (old new : S) (result : ℕ)
    → EndsInJson (IsCallText one) (IsCallRefusal one) taken failed old new result
    → EndsInJson (IsCallText other) (IsCallRefusal other) taken failed old new result
ends_in_json_as words one other n m taken failed old new result ends = elim ends [
  | inl (answer, text, is, ended) ↦ inl (answer, text, same_text words one other n m answer text is, ended)
  | inr (inl (e, is, ended)) ↦ inr (inl (e, same_refusal words one other n m e is, ended))
  | inr (inr short) ↦ inr (inr short)
]
