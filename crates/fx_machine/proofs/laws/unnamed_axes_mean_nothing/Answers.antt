use Rattle.fx_machine.proofs.AlikePackets as alike
use Rattle.fx_machine.proofs.AlikeClaims as claims
use Rattle.fx_tables.specs.NamedAxes.{HasZerosElsewhere}
use Rattle.fx_machine.proofs.laws.unnamed_axes_mean_nothing.Goals as goal

pub returns-clause-all_fields_fit : goal.returns-clause-all_fields_fit
returns-clause-all_fields_fit c named f is = claims.fields_fit named f is

pub returns-clause-of_class : goal.returns-clause-of_class
returns-clause-of_class c named classes p q only h = (
  alike.of_class_same named classes p q only h,
  alike.of_class_same named classes q p only
      (alike.alike_back named p q h),
)

pub returns-clause-opening : goal.returns-clause-opening
returns-clause-opening c named net classes ps qs h = alike.opening_same named net classes ps qs h

pub returns-clause-step : goal.returns-clause-step
returns-clause-step c named net classes ps qs only h step s = alike.after_same named net classes only ps qs h step s

pub returns-clause-run : goal.returns-clause-run
returns-clause-run c named net classes ps qs only h written s = alike.run_same named net classes only ps qs h written s

pub returns-clause-runs : goal.returns-clause-runs
returns-clause-runs c named net classes ps qs only h s last = (
  alike.runs_same named net classes only ps qs h s last,
  alike.runs_same named net classes only qs ps
      (alike.back named ps qs h) s last,
)

pub returns-clause-sums : goal.returns-clause-sums
returns-clause-sums c named net classes ps qs only h key =
    alike.sum_same named net.report_layout only.report key _ _ (alike.to_count_alike named classes ps qs h)

pub returns-clause-sums_fit : goal.returns-clause-sums_fit
returns-clause-sums_fit c named net classes ps qs only h = (
  alike.fit_same named net.report_layout only.report _ _ (alike.to_count_alike named classes ps qs h),
  alike.fit_same named net.report_layout only.report _ _
      (alike.to_count_alike named classes qs ps (alike.back named ps qs h)),
)

pub returns-clause-once : goal.returns-clause-once
returns-clause-once c named net classes only classes_only =
    claims.once_iff named (HasZerosElsewhere named) (claims.zeros_cover named) net classes only classes_only

pub returns-clause-modulo : goal.returns-clause-modulo
returns-clause-modulo c named net classes only classes_only =
    claims.modulo_iff named (HasZerosElsewhere named) (claims.zeros_cover named) net classes only classes_only
