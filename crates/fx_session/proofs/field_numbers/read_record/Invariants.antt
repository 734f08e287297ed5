use Rattle.std.proofs.Common.{◌≡◌, List, drop}
use Rattle.fx_wire.specs.Values.{Value, record_at, before_values}
use Rattle.fx_session.specs.Values.{Notes}
use Rattle.fx_session.proofs.field_numbers.read_record.Given as goal

-- the values so far are noted, and with those that are left they are the record's
abbrev pub invariant-loop-index : goal.invariant-loop-index
invariant-loop-index l = (vs : List Value) × (Notes l.seen vs)
    × (record_at l.fields l.octets ≡ before_values vs (record_at (drop l.index l.fields) l.rest))
