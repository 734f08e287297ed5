use Rattle.std.proofs.Common.{◌≡◌, ◌-◌, ◌^◌, ◌<◌, ◌≤◌}
use Rattle.fx_elements.specs.Address6.{pieces, groups_in, side_of, no_groups, side_with}
use Rattle.fx_elements.proofs.address6.read_side.Given as goal

abbrev pub invariant-loop-side : goal.invariant-loop-side
invariant-loop-side l = record {
  few : l.side.count ≤ 8;
  fits : l.side.value < 65536 ^ l.side.count;
  same : side_with no_groups (side_of l.ends l.fn.text) ≡ side_with l.side (groups_in l.ends (pieces l.rest));
}

abbrev pub decreases-loop-side : goal.decreases-loop-side
decreases-loop-side l = 8 - l.side.count
