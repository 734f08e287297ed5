use Rattle.std.proofs.Common.{◌≡◌, ◌-◌, ◌^◌, ◌<◌}
use Rattle.fx_elements.specs.Groups.{groups_of}
use Rattle.fx_elements.proofs.InTurn.{groups_left}
use Rattle.fx_elements.proofs.groups.read_groups.Given as goal

abbrev pub invariant-loop-index : goal.invariant-loop-index
invariant-loop-index l = record {
  fits : l.address < 65536 ^ l._index;
  same : groups_of l.fn.text ≡ groups_left (7 - l._index) l.rest l.address;
}
