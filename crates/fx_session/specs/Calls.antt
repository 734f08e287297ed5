-- The results of calls that read parts of a message.
use Rattle.std.specs.Prelude.{◌≡◌, ◌≢◌, List, ◌++◌, Result, Ok, Err}
use Rattle.fx_session.specs.declared.stream_fault.StreamFault.{StreamFault}
use Rattle.fx_session.specs.declared.stream_fault.StreamFault.TheVariants as faults

-- the call does what is defined, or returns the refusal that is defined; out of memory may replace either
abbrev pub Does : {A : Type 0} → Result (Unit {0}) StreamFault → Result A StreamFault → A → Type 0
Does (Ok u) defined new = defined ≡ Ok new
Does (Err fault) defined new = fault ≢ faults.OutOfMemory → defined ≡ Err fault

-- the same entries, followed by others
abbrev pub Grows : {A : Type 0} → List A → List A → Type 0
Grows {A = A} old new = (more : List A) × (new ≡ old ++ more)
