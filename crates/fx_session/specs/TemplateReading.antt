-- The answers of the readers of template records.
use Rattle.std.specs.Prelude.{◌≡◌, ◌≢◌, ℕ, ◌≤◌, ◌<◌, List, length, Result, Ok, Err}
use Rattle.std.specs.Borrow.{Bor}
use Rattle.fx_wire.specs.Fields.{fields_in}
use Rattle.fx_wire.specs.Values.{shortest_record}
use Rattle.fx_wire.specs.declared.malformed.Malformed.{Malformed}
use Rattle.fx_wire.specs.declared.field.FieldSpecifier.{FieldSpecifier}
use Rattle.fx_session.specs.Templates.{Templates}
use Rattle.fx_session.specs.declared.stream_fault.StreamFault.{StreamFault}
use Rattle.fx_session.specs.declared.stream_fault.StreamFault.TheVariants as faults

-- all fields and the octets after them; each field has at least one octet
pub record ReadsFields (count : ℕ) (octets : List ℕ) (fields : List FieldSpecifier) (rest : List ℕ) : Type 0 where
  pub all : fields_in count octets ≡ Ok (fields, rest)
  pub count_is : length fields ≡ count
  pub some : count ≤ shortest_record fields
  pub shorter : length rest ≤ length octets

-- the fields are refused with this fault; out of memory may replace what is defined
abbrev pub RefusesFields : Result (List FieldSpecifier × List ℕ) Malformed → StreamFault → Type 0
RefusesFields defined (faults.Malformed why) = defined ≡ Err why
RefusesFields defined fault = fault ≡ faults.OutOfMemory

-- the call does what is defined, and these octets follow; out of memory may replace that result
abbrev pub Follows : Result (Templates × List ℕ) StreamFault → Templates → Result (Bor (List ℕ)) StreamFault → Type 0
Follows defined new (Ok rest) = defined ≡ Ok (new, rest.now)
Follows defined new (Err fault) = fault ≢ faults.OutOfMemory → defined ≡ Err fault

abbrev pub IsNoLonger : List ℕ → Result (Bor (List ℕ)) StreamFault → Type 0
IsNoLonger octets (Ok rest) = length rest.now ≤ length octets
IsNoLonger octets (Err fault) = Unit {0}

abbrev pub IsShorter : List ℕ → Result (Bor (List ℕ)) StreamFault → Type 0
IsShorter octets (Ok rest) = length rest.now < length octets
IsShorter octets (Err fault) = Unit {0}
