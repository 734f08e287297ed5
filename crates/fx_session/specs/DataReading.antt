-- The answers of the readers of data records.
use Rattle.std.specs.Prelude.{◌≡◌, ◌≢◌, ℕ, List, Result, Ok, Err}
use Rattle.std.specs.Borrow.{Bor}
use Rattle.fx_session.specs.DataSets.{Taken}
use Rattle.fx_session.specs.declared.stream_fault.StreamFault.{StreamFault}
use Rattle.fx_session.specs.declared.stream_fault.StreamFault.TheVariants as faults

-- the call does what is defined, and these octets follow; out of memory may replace that result
abbrev pub Follows : Result (Taken × List ℕ) StreamFault → Taken → Result (Bor (List ℕ)) StreamFault → Type 0
Follows defined new (Ok rest) = defined ≡ Ok (new, rest.now)
Follows defined new (Err fault) = fault ≢ faults.OutOfMemory → defined ≡ Err fault
