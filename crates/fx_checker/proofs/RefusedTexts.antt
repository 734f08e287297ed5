-- Why a command over two documents and a text is refused, for some octets.
use Rattle.std.proofs.Common.{◌≡◌, ◌⊎◌, ◌∙◌, ℕ, Bool, sym, ap, List, Option, Some, None, inl, inr, true≢false}
use Rattle.std.specs.Prelude.{IfErr, Result, Ok, Err, is_some}
use Rattle.fx_base.specs.Device.{IsWriteFault}
use Rattle.fx_base.specs.Fault.{fault_at}
use Rattle.fx_base.specs.declared.fault.Fault.{Fault}
use Rattle.fx_base.specs.declared.fault.Place.TheVariants as places
use Rattle.fx_base.specs.Lines.{Fails, Lines}
use Rattle.fx_checker.specs.Documents.{BothMayHaveLeft}
use Rattle.fx_checker.specs.Outputs.{FailsBy}
use Rattle.fx_checker.specs.Running.{ForSomeTexts, IsAtBeginning, IsRefusal}

-- a reader that had not stopped can't be read
not_stopped : (e : Fault) (o : Option Fault) → o ≡ None → o ≡ Some e → ⊥
not_stopped e o none some = absurd (true≢false
    (sym (ap (λ (x : Option Fault). is_some x) some) ∙ ap (λ (x : Option Fault). is_some x) none))

pub fails_unread : (old new : Lines) (e : Fault) → IsAtBeginning old → Fails old new e → e ≡ fault_at 901 places.None
fails_unread old new e begins (inl stopped) = absurd (not_stopped e old.stopped begins.0 stopped)
fails_unread old new e begins (inr (is, cut)) = is

pub texts_refused : (R : List ℕ → List ℕ → Lines → Fault → Type 0) (old new : Lines) (network traffic : Option (List ℕ))
    (U V : Type 0) (failed : Bool) {A : Type 0} (r : Result A Fault) → IsAtBeginning old
    → IfErr r (FailsBy (λ e. (e ≡ fault_at 901 places.None) × U) (λ e. (e ≡ fault_at 901 places.None) × V)
    (Fails old new) failed (λ e. BothMayHaveLeft network traffic (λ n t. R n t old e)))
    → IfErr r (λ e. IsWriteFault failed e ⊎ IsRefusal (λ x. ForSomeTexts (λ n t lines. R n t lines x)) e)
texts_refused R old new network traffic U V failed (Ok a) begins why = tt
texts_refused R old new network traffic U V failed (Err e) begins (inl memory) = inr (inl memory)
texts_refused R old new network traffic U V failed (Err e) begins (inr (inl (is, cut))) = inr (inr (inl is))
texts_refused R old new network traffic U V failed (Err e) begins (inr (inr (inl (is, cut)))) = inr (inr (inl is))
texts_refused R old new network traffic U V failed (Err e) begins (inr (inr (inr (inl fails)))) =
    inr (inr (inl (fails_unread old new e begins fails)))
texts_refused R old new network traffic U V failed (Err e) begins (inr (inr (inr (inr (inl write))))) = inl write
texts_refused R old new network traffic U V failed (Err e) begins
    (inr (inr (inr (inr (inr (n, left, (t, also, is))))))) = inr (inr (inr (n, t, old, begins, is)))
