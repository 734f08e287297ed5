use Rattle.std.proofs.Common.{ℕ, length, drop}
use Rattle.fx_plan.specs.Labels.{AreGrouped}
use Rattle.fx_plan.proofs.LabelGroups.{NoneIn}
use Rattle.fx_plan.proofs.labels.place.Given as goal

abbrev pub invariant-loop-group : goal.invariant-loop-group
invariant-loop-group l =
    record {
      from : ℕ;
      grouped : AreGrouped from l.all (drop l.group-index l.group-items) (length l.all);
      none : NoneIn l.device l.name l.all 0 from;
    }
