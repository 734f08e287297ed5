-- Why the words' call is refused, by why its command is.
use Rattle.std.proofs.Common.{◌≡◌, ◌⊎◌, ℕ, Bool, true, false, sym, ap, subst, List, Option, Some, None, inl, inr, true≢false}
use Rattle.std.specs.Prelude.{IfErr, Result, Ok, Err}
use Rattle.fx_base.specs.Device.{IsWriteFault, MayHaveLeft}
use Rattle.fx_base.specs.Fault.{fault_at, IsMemory}
use Rattle.fx_base.specs.declared.fault.Fault.{Fault}
use Rattle.fx_base.specs.declared.fault.Place.TheVariants as places
use Rattle.fx_base.specs.Lines.{Fails, Lines}
use Rattle.fx_link.specs.Links.{Put}
use Rattle.fx_checker.specs.Documents.{BothMayHaveLeft}
use Rattle.fx_audit.specs.Metering.{IsRefusedMetering}
use Rattle.fx_cli.specs.Running.{IsCaptureRefusal, IsRunRefusal, ForSomeNetwork, ForSomeDocuments, ForSomeFiles}
use Rattle.fx_checker.specs.Running.{IsAtBeginning, IsRefusal, ForSomeTexts}
use Rattle.fx_checker.proofs.RefusedTexts.{fails_unread}

pub documents_refused : (R : List ℕ → List ℕ → Fault → Type 0) (network traffic : Option (List ℕ)) (U V : Type 0)
    (failed : Bool) {A : Type 0} (r : Result A Fault)
    → IfErr r (λ e. IsMemory e ⊎ (((e ≡ fault_at 901 places.None) × U)
    ⊎ (((e ≡ fault_at 901 places.None) × V)
    ⊎ (IsWriteFault failed e ⊎ BothMayHaveLeft network traffic (λ n t. R n t e)))))
    → IfErr r (λ e. IsWriteFault failed e ⊎ IsRefusal (λ x. ForSomeDocuments (λ n t. R n t x)) e)
documents_refused R network traffic U V failed (Ok a) why = tt
documents_refused R network traffic U V failed (Err e) (inl memory) = inr (inl memory)
documents_refused R network traffic U V failed (Err e) (inr (inl (is, cut))) = inr (inr (inl is))
documents_refused R network traffic U V failed (Err e) (inr (inr (inl (is, cut)))) = inr (inr (inl is))
documents_refused R network traffic U V failed (Err e) (inr (inr (inr (inl write)))) = inl write
documents_refused R network traffic U V failed (Err e) (inr (inr (inr (inr (n, left, (t, also, is)))))) =
    inr (inr (inr (n, t, is)))

pub files_refused : (R : List ℕ → List ℕ → List ℕ → Fault → Type 0) (network traffic third : Option (List ℕ))
    (U V W : Type 0) (failed : Bool) {A : Type 0} (r : Result A Fault)
    → IfErr r (λ e. IsMemory e ⊎ (((e ≡ fault_at 901 places.None) × U)
    ⊎ (((e ≡ fault_at 901 places.None) × V)
    ⊎ (((e ≡ fault_at 901 places.None) × W)
    ⊎ (IsWriteFault failed e
    ⊎ BothMayHaveLeft network traffic (λ n t. MayHaveLeft third (λ p. R n t p e)))))))
    → IfErr r (λ e. IsWriteFault failed e ⊎ IsRefusal (λ x. ForSomeFiles (λ n t p. R n t p x)) e)
files_refused R network traffic third U V W failed (Ok a) why = tt
files_refused R network traffic third U V W failed (Err e) (inl memory) = inr (inl memory)
files_refused R network traffic third U V W failed (Err e) (inr (inl (is, cut))) = inr (inr (inl is))
files_refused R network traffic third U V W failed (Err e) (inr (inr (inl (is, cut)))) = inr (inr (inl is))
files_refused R network traffic third U V W failed (Err e) (inr (inr (inr (inl (is, cut))))) = inr (inr (inl is))
files_refused R network traffic third U V W failed (Err e) (inr (inr (inr (inr (inl write))))) = inl write
files_refused R network traffic third U V W failed (Err e)
    (inr (inr (inr (inr (inr (n, left, (t, also, (p, too, is)))))))) = inr (inr (inr (n, t, p, is)))

pub document_refused : (R : List ℕ → Fault → Type 0) (network : Option (List ℕ)) (U : Type 0) (failed : Bool)
    {A : Type 0} (r : Result A Fault)
    → IfErr r (λ e. IsMemory e ⊎ (((e ≡ fault_at 901 places.None) × U)
    ⊎ (IsWriteFault failed e ⊎ MayHaveLeft network (λ n. R n e))))
    → IfErr r (λ e. IsWriteFault failed e ⊎ IsRefusal (λ x. ForSomeNetwork (λ n. R n x)) e)
document_refused R network U failed (Ok a) why = tt
document_refused R network U failed (Err e) (inl memory) = inr (inl memory)
document_refused R network U failed (Err e) (inr (inl (is, cut))) = inr (inr (inl is))
document_refused R network U failed (Err e) (inr (inr (inl write))) = inl write
document_refused R network U failed (Err e) (inr (inr (inr (n, left, is)))) = inr (inr (inr (n, is)))

pub lines_refused : (R : List ℕ → Lines → Fault → Type 0) (old new : Lines) (network : Option (List ℕ)) (U : Type 0)
    (failed : Bool) {A : Type 0} (r : Result A Fault) → IsAtBeginning old
    → IfErr r (λ e. IsMemory e ⊎ (((e ≡ fault_at 901 places.None) × U)
    ⊎ (Fails old new e ⊎ (IsWriteFault failed e ⊎ MayHaveLeft network (λ n. R n old e)))))
    → IfErr r (λ e. IsWriteFault failed e ⊎ IsRefusal
    (λ x. ForSomeNetwork (λ n. ((lines : Lines) × IsAtBeginning lines × R n lines x))) e)
lines_refused R old new network U failed (Ok a) begins why = tt
lines_refused R old new network U failed (Err e) begins (inl memory) = inr (inl memory)
lines_refused R old new network U failed (Err e) begins (inr (inl (is, cut))) = inr (inr (inl is))
lines_refused R old new network U failed (Err e) begins (inr (inr (inl fails))) =
    inr (inr (inl (fails_unread old new e begins fails)))
lines_refused R old new network U failed (Err e) begins (inr (inr (inr (inl write)))) = inl write
lines_refused R old new network U failed (Err e) begins (inr (inr (inr (inr (n, left, is))))) =
    inr (inr (inr (n, (old, begins, is))))

-- ---- a run over a capture

-- a capture that can't be read is 901
metering_read : (n t : List ℕ) (left : Option (List ℕ)) (asked : ℕ) (unread : Type 0) (HoldsAtEnd : _)
    (from last : Lines) (before : Put) (e : Fault)
    → IsRefusedMetering n t left asked unread HoldsAtEnd from last before e
    → (e ≡ fault_at 901 places.None) ⊎ IsRefusedMetering n t left asked ⊥ HoldsAtEnd from last before e
metering_read n t left asked unread HoldsAtEnd from last before e (inl documents) = inr (inl documents)
metering_read n t left asked unread HoldsAtEnd from last before e (inr (network, classes, p, q, inl (inl memory))) =
    inr (inr (network, classes, p, q, inl (inl memory)))
metering_read n t left asked unread HoldsAtEnd from last before e
    (inr (network, classes, p, q, inl (inr (inl (is, cut))))) = inl is
metering_read n t left asked unread HoldsAtEnd from last before e
    (inr (network, classes, p, q, inl (inr (inr format)))) = inr (inr (network, classes, p, q, inl (inr (inr format))))
metering_read n t left asked unread HoldsAtEnd from last before e (inr (network, classes, p, q, inr over)) =
    inr (inr (network, classes, p, q, inr over))

both_read : (left_n left_t left : Option (List ℕ)) (asked : ℕ) (unread : Type 0) (HoldsAtEnd : _) (from last : Lines)
    (before : Put) (e : Fault)
    → BothMayHaveLeft left_n left_t (λ n t. IsRefusedMetering n t left asked unread HoldsAtEnd from last before e)
    → (e ≡ fault_at 901 places.None) ⊎ BothMayHaveLeft left_n left_t
    (λ n t. IsRefusedMetering n t left asked ⊥ HoldsAtEnd from last before e)
both_read left_n left_t left asked unread HoldsAtEnd from last before e (n, l, (t, also, is)) =
    elim (metering_read n t left asked unread HoldsAtEnd from last before e is) [
      | inl read ↦ inl read
      | inr refused ↦ inr (n, l, (t, also, refused))
    ]

pub run_on_links_refused : (links failed : Bool) (U V : Type 0) (left_n left_t left : Option (List ℕ)) (asked : ℕ)
    (unread : Type 0) (HoldsAtEnd : _) (from last : Lines) (before : Put) {A : Type 0} (r : Result A Fault)
    → IfErr r (λ e. ((e ≡ fault_at 900 places.None) ⊎ IsWriteFault links e)
    ⊎ (((e ≡ fault_at 901 places.None) × U) ⊎ (((e ≡ fault_at 901 places.None) × V) ⊎ (IsWriteFault failed e
    ⊎ BothMayHaveLeft left_n left_t (λ n t. IsRefusedMetering n t left asked unread HoldsAtEnd from last before e)))))
    → IfErr r (λ e. IsMemory e ⊎ ((e ≡ fault_at 901 places.None)
    ⊎ (IsWriteFault links e ⊎ (IsWriteFault failed e
    ⊎ BothMayHaveLeft left_n left_t (λ n t. IsRefusedMetering n t left asked ⊥ HoldsAtEnd from last before e)))))
run_on_links_refused links failed U V left_n left_t left asked unread HoldsAtEnd from last before (Ok a) why = tt
run_on_links_refused links failed U V left_n left_t left asked unread HoldsAtEnd from last before (Err e)
    (inl (inl memory)) = inl memory
run_on_links_refused links failed U V left_n left_t left asked unread HoldsAtEnd from last before (Err e)
    (inl (inr fails)) = inr (inr (inl fails))
run_on_links_refused links failed U V left_n left_t left asked unread HoldsAtEnd from last before (Err e)
    (inr (inl (is, cut))) = inr (inl is)
run_on_links_refused links failed U V left_n left_t left asked unread HoldsAtEnd from last before (Err e)
    (inr (inr (inl (is, cut)))) = inr (inl is)
run_on_links_refused links failed U V left_n left_t left asked unread HoldsAtEnd from last before (Err e)
    (inr (inr (inr (inl write)))) = inr (inr (inr (inl write)))
run_on_links_refused links failed U V left_n left_t left asked unread HoldsAtEnd from last before (Err e)
    (inr (inr (inr (inr over)))) =
    elim (both_read left_n left_t left asked unread HoldsAtEnd from last before e over) [
      | inl read ↦ inr (inl read)
      | inr refused ↦ inr (inr (inr (inr refused)))
    ]

-- whatever holds of the capture's state at the end
whatever_at_end : (n t : List ℕ) (left : Option (List ℕ)) (asked : ℕ) (HoldsAtEnd : _) (from last : Lines)
    (before : Put) (e : Fault) → IsRefusedMetering n t left asked ⊥ HoldsAtEnd from last before e
    → IsRefusedMetering n t left asked ⊥ (λ _. Unit {0}) from last before e
whatever_at_end n t left asked HoldsAtEnd from last before e (inl documents) = inl documents
whatever_at_end n t left asked HoldsAtEnd from last before e (inr (network, classes, p, q, inl capture)) =
    inr (network, classes, p, q, inl capture)
whatever_at_end n t left asked HoldsAtEnd from last before e
    (inr (network, classes, p, q, inr (at, to, opened, refused, ended))) =
    inr (network, classes, p, q, inr (at, to, opened, refused, tt))

over_texts : (left_n left_t left : Option (List ℕ)) (asked : ℕ) (HoldsAtEnd : _) (from last : Lines) (before : Put)
    (e : Fault) → IsAtBeginning from
    → BothMayHaveLeft left_n left_t (λ n t. IsRefusedMetering n t left asked ⊥ HoldsAtEnd from last before e)
    → ForSomeTexts (λ n t lines. IsCaptureRefusal n t lines e)
over_texts left_n left_t left asked HoldsAtEnd from last before e begins (n, l, (t, also, refused)) = (
  n,
  t,
  from,
  begins,
  record {
    left = left;
    asked = asked;
    last = last;
    before = before;
    refused =
        whatever_at_end n t left asked HoldsAtEnd from last before e refused;
  },
)

-- with files of links
pub run_refused_with_links : (links failed : Bool) (left_n left_t left : Option (List ℕ)) (asked : ℕ) (HoldsAtEnd : _)
    (from last : Lines) (before : Put) {A : Type 0} (r : Result A Fault) → IsAtBeginning from
    → IfErr r (λ e. IsMemory e ⊎ ((e ≡ fault_at 901 places.None)
    ⊎ (IsWriteFault links e ⊎ (IsWriteFault failed e
    ⊎ BothMayHaveLeft left_n left_t (λ n t. IsRefusedMetering n t left asked ⊥ HoldsAtEnd from last before e)))))
    → IfErr r (λ e. IsWriteFault failed e ⊎ IsRefusal (IsRunRefusal true) e)
run_refused_with_links links failed left_n left_t left asked HoldsAtEnd from last before (Ok a) begins why = tt
run_refused_with_links links failed left_n left_t left asked HoldsAtEnd from last before (Err e) begins (inl memory) =
    inr (inl memory)
run_refused_with_links links failed left_n left_t left asked HoldsAtEnd from last before (Err e) begins
    (inr (inl read)) = inr (inr (inl read))
run_refused_with_links links failed left_n left_t left asked HoldsAtEnd from last before (Err e) begins
    (inr (inr (inl (is, fails)))) = inr (inr (inr (inl is)))
run_refused_with_links links failed left_n left_t left asked HoldsAtEnd from last before (Err e) begins
    (inr (inr (inr (inl write)))) = inl write
run_refused_with_links links failed left_n left_t left asked HoldsAtEnd from last before (Err e) begins
    (inr (inr (inr (inr over)))) = inr (inr
    (inr (inr (over_texts left_n left_t left asked HoldsAtEnd from last before e begins over))))

-- and nowhere, where no write fails
pub run_refused_nowhere : (failed : Bool) (left_n left_t left : Option (List ℕ)) (asked : ℕ) (HoldsAtEnd : _)
    (from last : Lines) (before : Put) {A : Type 0} (r : Result A Fault) → IsAtBeginning from
    → IfErr r (λ e. IsMemory e ⊎ ((e ≡ fault_at 901 places.None)
    ⊎ (IsWriteFault false e ⊎ (IsWriteFault failed e
    ⊎ BothMayHaveLeft left_n left_t (λ n t. IsRefusedMetering n t left asked ⊥ HoldsAtEnd from last before e)))))
    → IfErr r (λ e. IsWriteFault failed e ⊎ IsRefusal (IsRunRefusal false) e)
run_refused_nowhere failed left_n left_t left asked HoldsAtEnd from last before (Ok a) begins why = tt
run_refused_nowhere failed left_n left_t left asked HoldsAtEnd from last before (Err e) begins (inl memory) =
    inr (inl memory)
run_refused_nowhere failed left_n left_t left asked HoldsAtEnd from last before (Err e) begins (inr (inl read)) =
    inr (inr (inl read))
run_refused_nowhere failed left_n left_t left asked HoldsAtEnd from last before (Err e) begins
    (inr (inr (inl (is, fails)))) = absurd (true≢false (sym fails))
run_refused_nowhere failed left_n left_t left asked HoldsAtEnd from last before (Err e) begins
    (inr (inr (inr (inl write)))) = inl write
run_refused_nowhere failed left_n left_t left asked HoldsAtEnd from last before (Err e) begins
    (inr (inr (inr (inr over)))) = inr (inr
    (inr (over_texts left_n left_t left asked HoldsAtEnd from last before e begins over)))

-- a refusal of one of a command's branches
pub refused_as : {S : Type 0} (failed : S → Bool) (IsRefused : Fault → Type 0) {A : Type 0} (last then : S)
    (r s : Result A Fault) → last ≡ then → r ≡ s
    → IfErr s (λ e. IsWriteFault (failed then) e ⊎ IsRefused e)
    → IfErr r (λ e. IsWriteFault (failed last) e ⊎ IsRefused e)
refused_as {S} failed IsRefused {A} last then r s same is why =
    subst (λ (x : S). IfErr r (λ e. IsWriteFault (failed x) e ⊎ IsRefused e)) (sym same)
    (subst (λ (x : Result A Fault). IfErr x (λ e. IsWriteFault (failed then) e ⊎ IsRefused e)) (sym is) why)
