use Rattle.std.proofs.Common.{ap, length}
use Rattle.fx_tables.specs.Ranks.{IsNetwork}
use Rattle.fx_parts.proofs.Checked.{holds_on}
use Rattle.fx_parts.proofs.Joins.{none_joined}
use Rattle.fx_parts.proofs.join.Join.new.Goals as goal

pub invariant_of-result : goal.invariant_of-result
invariant_of-result c =
    none_joined c.args.whole.now c.args.classes.now c.in_ok-covered.covered.items _
    (holds_on c.in_ok-is_network.field-0 (IsNetwork c.args.whole.now) c.if-not-branch.false c.in_ok-is_network.ensures)
    c.in_ok-covered.ensures (ap length c.as_slice.ensures)
