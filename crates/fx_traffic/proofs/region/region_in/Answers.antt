use Rattle.std.proofs.Common.{◌+◌, ◌∙◌, ◌++◌, List, ap, subst, arith, get_or, map, drop}
use Rattle.std.proofs.lemmas.List.{drop_all, length-set}
use Rattle.serde_json.specs.View.{view}
use Rattle.fx_elements.specs.declared.axis.Axis.{Axis}
use Rattle.fx_elements.specs.declared.axis.Axis.TheVariants.{Source}
use Rattle.fx_elements.specs.declared.values.Range.{Range}
use Rattle.fx_elements.specs.Axes.{axes}
use Rattle.fx_elements.proofs.EveryAxis.{index_at, set_more}
use Rattle.fx_walk.specs.Pointer.{pointer}
use Rattle.fx_walk.specs.Walk.{FoundFault, row_faults}
use Rattle.fx_walk.proofs.Faults.{exit}
use Rattle.fx_traffic.specs.Regions.{IsOn}
use Rattle.fx_traffic.proofs.Regions.{IsLowAt, IsHighAt, faults_here, is_region, refuses_here, region_is, row_on}
use Rattle.fx_traffic.proofs.region.region_in.Goals as goal

pub returns-in_err-values : goal.returns-in_err-values
returns-in_err-values c =
    exit _ _ _ _ c.from_residual.ensures (refuses_here _ _ _ _
    (c.loop-axis.invariant.faults ∙ faults_here (pointer c.args.path.now) (view c.args.object.now)
    c.loop-axis.axis-index (omega arith)) c.in_err-values.ensures.answer)

pub loop-axis-preserved : goal.loop-axis-preserved
loop-axis-preserved c =
    let inv = c.loop-axis.invariant in
    let i = c.loop-axis.axis-index in
    let up = pointer c.args.path.now in
    let d = view c.args.object.now in
    let given = c.in_ok-values.ensures.answer.1 in
    let at = index_at i (omega arith) in
    record {
      low_len = length-set c.loop-axis.low c.index.result c.in_ok-values.values.low ∙ inv.low_len;
      high_len = length-set c.loop-axis.high c.index-in-loop-axis.result c.in_ok-values.values.high ∙ inv.high_len;
      faults = inv.faults ∙ faults_here up d i (omega arith)
          ∙ ap (λ (fs : List FoundFault). fs ++ row_faults (map row_on (drop (i + 1) axes)) up d)
          c.in_ok-values.ensures.answer.0;
      lows = set_more (IsLowAt d) c.loop-axis.low i c.index.result c.in_ok-values.values.low 0
          (omega (arith, inv.low_len)) (c.index.ensures.place ∙ at)
          (ap (λ (r : Range). r.low) given, subst (IsOn (get_or axes i Source)) given c.in_ok-values.ensures.bound)
          inv.lows;
      highs = set_more (IsHighAt d) c.loop-axis.high i c.index-in-loop-axis.result c.in_ok-values.values.high 0
          (omega (arith, inv.high_len)) (c.index-in-loop-axis.ensures.place ∙ at) (ap (λ (r : Range). r.high) given)
          inv.highs;
    }

pub region_between-requires : goal.region_between-requires
region_between-requires c =
    let inv = c.loop-axis.invariant in
    is_region (view c.args.object.now) c.loop-axis.low c.loop-axis.high (λ k. λ lt. inv.lows k (omega (arith, lt)))
    (λ k. λ lt. inv.highs k (omega (arith, lt)))

pub returns : goal.returns
returns c =
    let inv = c.loop-axis.invariant in
    let d = view c.args.object.now in (
      inv.faults ∙ ap (λ (xs : List Axis). row_faults (map row_on xs) (pointer c.args.path.now) d)
          (drop_all c.loop-axis.axis-index axes (omega arith)),
      c.region_between.ensures ∙ region_is d c.loop-axis.low c.loop-axis.high inv.low_len inv.high_len
          (λ k. λ lt. inv.lows k (omega (arith, lt))) (λ k. λ lt. inv.highs k (omega (arith, lt))),
    )
