-- Data sets (RFC 7011, sections 3.4.3 and 3.3.1).
use Rattle.std.specs.Prelude.{◌≡◌, ℕ, zero, suc, ◌+◌, ◌%◌, ◌^◌, nat_lt, if◌then◌else◌, List, [], ◌∷◌, ◌++◌, length, Option, Some, None, Result, Ok, Err}
use Rattle.fx_tables.specs.declared.record.Record.{Record}
use Rattle.fx_wire.specs.Values.{Value, record_at, after_record, shortest_record}
use Rattle.fx_wire.specs.declared.field.FieldSpecifier.{FieldSpecifier}
use Rattle.fx_session.specs.Flows.{flow_in}
use Rattle.fx_session.specs.declared.stream_fault.StreamFault.{StreamFault}
use Rattle.fx_session.specs.declared.stream_fault.StreamFault.TheVariants as faults

-- what was read so far: the waiting records, the number of skipped records, and the number of data records in the
-- message
pub record Taken : Type 0 where
  pub waiting : List Record
  pub skipped : ℕ
  pub count : ℕ

abbrev pub with_flow : Taken → Option Record → Taken
with_flow t (Some r) = record { waiting = t.waiting ++ r ∷ []; skipped = t.skipped; count = (t.count + 1) % 2 ^ 32 }
with_flow t None = record { waiting = t.waiting; skipped = (t.skipped + 1) % 2 ^ 64; count = (t.count + 1) % 2 ^ 32 }

abbrev pub after_flow : Taken → List ℕ → Result (Option Record) StreamFault → Result (Taken × List ℕ) StreamFault
after_flow t rest (Ok o) = Ok (with_flow t o, rest)
after_flow t rest (Err fault) = Err fault

abbrev pub after_values : Taken → Option (List Value × List ℕ) → Result (Taken × List ℕ) StreamFault
after_values t (Some p) = after_flow t p.1 (flow_in p.0)
after_values t None = Err faults.CutRecord

-- the data record at the front, and the octets after it: refusal 619 takes precedence over 620
abbrev pub flow_record : List FieldSpecifier → Taken → List ℕ → Result (Taken × List ℕ) StreamFault
flow_record fields t octets = after_values t (record_at fields octets)

-- The records in order; fewer octets than the shortest record are padding. Each record has octets, so their number
-- bounds the turns.
unfoldable pub flow_records : ℕ → List FieldSpecifier → Taken → List ℕ → Result Taken StreamFault
flow_records zero fields t octets = Ok t
flow_records (suc turns) fields t octets =
    if nat_lt (length octets) (shortest_record fields) then Ok t
    else elim (flow_record fields t octets) [ Ok p ↦ flow_records turns fields p.0 p.1 | Err fault ↦ Err fault ]

unfoldable pub flow_set : List FieldSpecifier → Taken → List ℕ → Result Taken StreamFault
flow_set fields t octets = flow_records (length octets) fields t octets

-- records under an options template are counted and not read
unfoldable pub option_records : ℕ → List FieldSpecifier → Taken → List ℕ → Result Taken StreamFault
option_records zero fields t octets = Ok t
option_records (suc turns) fields t octets =
    if nat_lt (length octets) (shortest_record fields) then Ok t
    else elim (after_record fields octets) [
      | Some rest ↦ option_records turns fields
          (record { waiting = t.waiting; skipped = t.skipped; count = (t.count + 1) % 2 ^ 32 }) rest
      | None ↦ Err faults.CutRecord
    ]

unfoldable pub option_set : List FieldSpecifier → Taken → List ℕ → Result Taken StreamFault
option_set fields t octets = option_records (length octets) fields t octets

-- the first waiting record is removed, if there is one
abbrev pub FirstLeaves : Taken → Taken → Option Record → Type 0
FirstLeaves old new None = (old.waiting ≡ []) × (new ≡ old)
FirstLeaves old new (Some r) = old ≡ record { waiting = r ∷ new.waiting; skipped = new.skipped; count = new.count }
