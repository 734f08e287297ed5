use Rattle.std.proofs.Common.{◌≡◌, ◌≤◌, ◌*◌, take, sum_by}
use Rattle.fx_wire.specs.Values.{shortest_value}
use Rattle.fx_wire.proofs.value.shortest_record.Given as goal

abbrev pub invariant-loop-field : goal.invariant-loop-field
invariant-loop-field l = record {
  sum : l.sum ≡ sum_by shortest_value (take l.field-index l.fields);
  bound : l.sum ≤ 65535 * l.field-index;
}
