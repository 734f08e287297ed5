-- The text of an answer is of the answer's kind.
use Rattle.std.proofs.Common.{ℕ, List, Option, Result, Ok, Err, IfOk, ◌≡◌, sym, subst}
use Rattle.fx_base.specs.declared.fault.Fault.{Fault}
use Rattle.fx_base.specs.Lines.{Lines}
use Rattle.fx_tables.specs.Classes.{Class}
use Rattle.fx_topology.specs.declared.network.NetworkDocument.{NetworkDocument}
use Rattle.fx_checker.specs.declared.answer.Answer.{Answer}
use Rattle.fx_checker.specs.declared.answer.Answer.TheVariants.{Yes, No, Unknown}
use Rattle.fx_checker.specs.Checks.{IsAnswered, IsCheckText}
use Rattle.fx_checker.specs.Outputs.{Prints}

pub check_text : (network : NetworkDocument) (classes : List Class) (lines : Lines) (answer : Answer) (text : List ℕ)
    → IsAnswered network classes lines answer text → IsCheckText answer text
check_text network classes lines Yes text h = h.text_is
check_text network classes lines No text h = (h.fault, h.means_no, h.text_is)
check_text network classes lines Unknown text h = absurd h

-- an answer with a text of one kind is one with a text of another that it always is of too
pub reported_as : (P Q : Answer → List ℕ → Type 0) (old new : Option (List ℕ)) (result : Result Answer Fault)
    → ((a : Answer) (text : List ℕ) → P a text → Q a text)
    → IfOk result (λ a. Prints (P a) old new) → IfOk result (λ a. Prints (Q a) old new)
reported_as P Q old new (Err e) means h = tt
reported_as P Q old new (Ok a) means h = (h.0, means a h.0 h.1, h.2)

pub yes_reported_as : (P : List ℕ → Type 0) (Q : Answer → List ℕ → Type 0) (old new : Option (List ℕ))
    (result : Result Answer Fault) → ((text : List ℕ) → P text → Q Yes text)
    → IfOk result (λ a. (a ≡ Yes) × Prints P old new) → IfOk result (λ a. Prints (Q a) old new)
yes_reported_as P Q old new (Err e) means h = tt
yes_reported_as P Q old new (Ok a) means h =
    (h.1.0, subst (λ (x : Answer). Q x h.1.0) (sym h.0) (means h.1.0 h.1.1), h.1.2)
