use Rattle.std.proofs.Common.{◌≡◌, drop}
use Rattle.fx_wire.specs.Values.{after_record}
use Rattle.fx_wire.proofs.value.cut_record.Given as goal

-- what follows the fields that are left is what follows the record
abbrev pub invariant-loop-field : goal.invariant-loop-field
invariant-loop-field l = after_record l.fields l.octets ≡ after_record (drop l.field-index l.fields) l.rest
