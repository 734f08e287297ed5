-- An answer for octets that may have been left is one for some octets, and a program ends as its command answers.
use Rattle.std.proofs.Common.{◌≡◌, ◌⊎◌, ◌∙◌, ℕ, Bool, false, sym, ap, subst, List, Option, inl, inr}
use Rattle.std.specs.Prelude.{IfErr, IfOk, Result, Ok, Err}
use Rattle.fx_base.specs.Device.{IsWriteFault, Writes}
use Rattle.fx_base.specs.declared.fault.Fault.{Fault}
use Rattle.fx_base.specs.Lines.{Lines, new_lines}
use Rattle.fx_checker.specs.declared.answer.Answer.{Answer}
use Rattle.fx_checker.specs.Documents.{BothMayHaveLeft}
use Rattle.fx_checker.specs.Ending.{EndsWith, refusal_line, refusal_status, status}
use Rattle.fx_checker.specs.Outputs.{AnswersWith, Prints}
use Rattle.fx_checker.specs.Running.{EndsAs, ForSomeTexts, HasFailedToWrite, IsAtBeginning}

pub at_beginning : (lines : Lines) (left : Option (List ℕ)) (failed : Bool) (asked : ℕ) → lines
    ≡ new_lines left failed asked → IsAtBeginning lines
at_beginning lines left failed asked is = (ap (λ (l : Lines). l.stopped) is, ap (λ (l : Lines). l.number) is)

pub of_texts : {E : Type 0} (P : Answer → List ℕ → List ℕ → Lines → List ℕ → Type 0) (lines : Lines)
    (r : Result Answer E) (network traffic old new : Option (List ℕ)) → IsAtBeginning lines
    → IfOk r (λ answer. BothMayHaveLeft network traffic (λ n t. Prints (P answer n t lines) old new))
    → IfOk r (λ answer. Prints (λ text. ForSomeTexts (λ n t lines. P answer n t lines text)) old new)
of_texts P lines (Ok answer) network traffic old new begins (n, left, (t, also, (text, is, written))) =
    (text, (n, t, lines, begins, is), written)
of_texts P lines (Err e) network traffic old new begins reported = tt

-- an answer that was reported, or a refusal that came with nothing written or with a failed write, and then the last
-- line
pub ended : {S : Type 0} (taken : S → Option (List ℕ)) (failed : S → Bool) (IsText : Answer → List ℕ → Type 0)
    (IsRefused : Fault → Type 0) (r : Result Answer Fault) (first then last : S) (code : ℕ)
    → AnswersWith taken failed IsText first then r
    → IfErr r (λ e. IsWriteFault (failed then) e ⊎ IsRefused e)
    → IfOk r (λ _. (code ≡ status r) × (last ≡ then))
    → IfErr r (λ e. EndsWith taken failed (refusal_line e) (refusal_status e) then last code)
    → EndsAs IsText IsRefused (taken first) (taken last) (failed first ≡ false → failed last ≡ false)
    (HasFailedToWrite taken failed last) code
ended {S} taken failed IsText IsRefused (Ok answer) first then last code ((text, is, reported), (going, quiet)) why
    (code_is, same) refused =
    inl (
      λ fine. subst (λ (s : S). failed s ≡ false) (sym same) (going fine),
      (answer, text, is, subst (λ (s : S). Writes (taken first) (taken s) text) (sym same) reported, code_is),
    )
ended {S} taken failed IsText IsRefused (Err e) first then last code answers (inl (is, fails)) answered
    (inl (code_is, line, keeps)) =
    inr (inr (
      code_is ∙ ap refusal_status is,
      inr
          (then, fails, subst (λ (x : Fault). Writes (taken then) (taken last) (refusal_line x)) is line),
    ))
ended {S} taken failed IsText IsRefused (Err e) first then last code (reported, (going, inl (is, fails))) (inr why)
    answered (inl (code_is, line, keeps)) =
    inr (inr (
      code_is ∙ ap refusal_status is,
      inr
          (then, fails, subst (λ (x : Fault). Writes (taken then) (taken last) (refusal_line x)) is line),
    ))
ended {S} taken failed IsText IsRefused (Err e) first then last code (reported, (going, inr same)) (inr why) answered
    (inl (code_is, line, keeps)) =
    inr (inl (
      λ fine. keeps (subst (λ (s : S). failed s ≡ false) (sym same) fine),
      (e, why, subst (λ (s : S). Writes (taken s) (taken last) (refusal_line e)) same line, code_is),
    ))
ended {S} taken failed IsText IsRefused (Err e) first then last code answers why answered (inr (five, fails)) =
    inr (inr (five, inl fails))
