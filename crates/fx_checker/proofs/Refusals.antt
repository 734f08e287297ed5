-- A refusal by a number that means no is answered, and any other is passed on.
use Rattle.std.proofs.Common.{◌≡◌, ◌⊎◌, ◌≤◌, ℕ, Bool, List, Option, Some, Result, Ok, Err, IfOk, IfErr, inl, inr, ap, sym, subst, arith}
use Rattle.fx_base.specs.declared.fault.Fault.{Fault}
use Rattle.fx_base.specs.declared.fault.Place.TheVariants as places
use Rattle.fx_base.specs.Device.{Writes, IsWriteFault}
use Rattle.fx_base.specs.Fault.{fault_at}
use Rattle.fx_base.specs.Lines.{Lines, Fails}
use Rattle.fx_checker.specs.declared.answer.Answer.{Answer}
use Rattle.fx_checker.specs.declared.answer.Answer.TheVariants.{No}
use Rattle.fx_checker.specs.Checks.{IsWithin, no_line}
use Rattle.fx_checker.specs.Outputs.{Prints}

-- why a text is refused
abbrev pub IsRefusedWhy : (Fault → Type 0) → Lines → Lines → Fault → Type 0
IsRefusedWhy Refused old new fault = (fault ≡ fault_at 900 places.None) ⊎ (Fails old new fault ⊎ Refused fault)

-- what becomes of a fault that isn't answered no, or of a write that failed
abbrev pub IsPassedOn : ℕ → ℕ → Fault → Bool → Fault → Type 0
IsPassedOn from to fault failed e = ((e ≡ fault) × (IsWithin from to fault.number → ⊥)) ⊎ IsWriteFault failed e

-- what is answered no is no want of memory and no device that failed
pub refused_by : (Refused : Fault → Type 0) (from to : ℕ) (old new : Lines) (fault : Fault) → to ≤ 899
    → IsRefusedWhy Refused old new fault → IsWithin from to fault.number → (old.stopped ≡ Some fault) ⊎ Refused fault
refused_by Refused from to old new fault low (inl m) means =
    absurd (omega (arith, ap (λ (f : Fault). f.number) m, means.1))
refused_by Refused from to old new fault low (inr (inl (inl stopped))) means = inl stopped
refused_by Refused from to old new fault low (inr (inl (inr d))) means =
    absurd (omega (arith, ap (λ (f : Fault). f.number) d.0, means.1))
refused_by Refused from to old new fault low (inr (inr r)) means = inr r

pub answered_no : (IsText : Answer → List ℕ → Type 0) (from to : ℕ) (fault : Fault) (old new : Option (List ℕ))
    (result : Result Answer Fault) → (IsWithin from to fault.number → IsText No (no_line fault))
    → IfOk result (λ a. (a ≡ No) × IsWithin from to fault.number × Writes old new (no_line fault))
    → IfOk result (λ a. Prints (IsText a) old new)
answered_no IsText from to fault old new (Err e) text_of h = tt
answered_no IsText from to fault old new (Ok a) text_of h =
    (no_line fault, subst (λ (x : Answer). IsText x (no_line fault)) (sym h.0) (text_of h.1), h.2)

pub refused_otherwise : (Refused : Fault → Type 0) (from to : ℕ) (old new : Lines) (fault : Fault) (failed : Bool)
    (result : Result Answer Fault) → IsRefusedWhy Refused old new fault → IfErr result (IsPassedOn from to fault failed)
    → IfErr result (λ e. (e ≡ fault_at 900 places.None)
    ⊎ (Fails old new e ⊎ (IsWriteFault failed e ⊎ (Refused e × (IsWithin from to e.number → ⊥)))))
refused_otherwise Refused from to old new fault failed (Ok a) why h = tt
refused_otherwise Refused from to old new fault failed (Err e) why (inr w) = inr (inr (inl w))
refused_otherwise Refused from to old new fault failed (Err e) why (inl k) =
    subst (λ (f : Fault). (f ≡ fault_at 900 places.None)
    ⊎ (Fails old new f ⊎ (IsWriteFault failed f ⊎ (Refused f × (IsWithin from to f.number → ⊥))))) (sym k.0)
    (elim why [
      | inl m ↦ inl m
      | inr (inl f) ↦ inr (inl f)
      | inr (inr r) ↦ inr (inr (inr (r, k.1)))
    ])
