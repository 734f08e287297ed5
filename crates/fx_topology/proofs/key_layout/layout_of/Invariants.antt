use Rattle.std.proofs.Common.{◌≡◌, [], drop}
use Rattle.fx_topology.specs.Reports.{with_fields}
use Rattle.fx_topology.proofs.key_layout.layout_of.Given as goal

abbrev pub invariant-loop-field : goal.invariant-loop-field
invariant-loop-field l = with_fields [] l.fields ≡ with_fields l.layout (drop l.field-index l.fields)
