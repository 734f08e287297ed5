use Rattle.std.proofs.Common.{◌≡◌, ◌≤◌, ◌+◌, length}
use Rattle.fx_wire.specs.Fields.{fields_in, before_fields}
use Rattle.fx_wire.specs.Values.{shortest_record}
use Rattle.fx_session.proofs.template_set.read_fields.Given as goal

-- the fields so far and those that are left are all
abbrev pub invariant-loop-next : goal.invariant-loop-next
invariant-loop-next l = record {
  all : fields_in l.count l.octets ≡ before_fields l.found.items (fields_in l.left.count l.left.octets);
  count : length l.found.items + l.left.count ≡ l.count;
  some : length l.found.items ≤ shortest_record l.found.items;
  shorter : length l.left.octets ≤ length l.octets;
}

abbrev pub decreases-loop-next : goal.decreases-loop-next
decreases-loop-next l = l.left.count
