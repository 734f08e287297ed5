use Rattle.std.proofs.Common.{◌<◌, arith, inl, inr, length, ℕ, Contains, Global, Vec, subst, sym}
use Rattle.fx_leaf.proofs.table.Verdicts.collect_matches.Goals as goal
use Rattle.fx_leaf.proofs.table.Verdicts.collect_matches.Goals.{in-Some+in_ok-push_bounds, in_default}

pub loop-index-preserved : goal.loop-index-preserved
loop-index-preserved c = λ at there.
    let end = c.len-index-end.ensures in
    let before = c.loop-index-test.true in
    let lt : c.loop-index.index < length c.args.remaining.now = omega (arith, before, end) in
    let is = c.at-aggregation.ensures.at c.at-aggregation.result.now in
    elim c.match-part_taken.branch [
      | in-Some+in_ok-push_bounds w ↦ elim (w.in_ok-push_bounds.ensures at
          (subst (λ (v : Vec ℕ Global). Contains v.items at) w.values-is there)) [
            | inl before ↦ c.loop-index.invariant at before
            | inr by ↦ record {
              aggregation = c.at-aggregation.result.now;
              among = (c.loop-index.index, lt, sym is);
              is_cause = w.in-Some.ensures c.args.axis at by;
            }
          ]
      | in_default w ↦ c.loop-index.invariant at (subst (λ (v : Vec ℕ Global). Contains v.items at) w.values-is there)
    ]
