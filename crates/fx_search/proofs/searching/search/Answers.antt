use Rattle.std.proofs.Common.{inr, subst}
use Rattle.fx_plan.specs.Tables.{net_of}
use Rattle.fx_traffic.specs.Targets.{targets_of}
use Rattle.fx_search.specs.Fronts.{most_lines}
use Rattle.fx_search.specs.Outcomes.{IsOutcome}
use Rattle.fx_search.proofs.SearchEnds.{too_large}
use Rattle.fx_search.proofs.searching.search.Goals as goal

pub returns-in-TooLarge-clause-err : goal.returns-in-TooLarge-clause-err
returns-in-TooLarge-clause-err g c =
    let reached = subst (IsOutcome (net_of c.args.plan.now) c.args.traffic.now c.args.limit) c.in-TooLarge.is
    c.in_ok-items.ensures.right in
    inr (
      c.bare.ensures,
      too_large (net_of c.args.plan.now) (targets_of c.args.traffic.now) (most_lines c.args.limit)
          reached.ahead _ reached.large,
    )
