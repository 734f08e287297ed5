use Rattle.std.proofs.Common.{refl, subst}
use Rattle.fx_traffic.specs.Targets.{targets_of}
use Rattle.fx_search.specs.Fronts.{most_lines}
use Rattle.fx_search.specs.Growing.{IsStoppedAt}
use Rattle.fx_search.proofs.searching.stopped.Goals as goal

pub returns-in-Wrong-clause-right : goal.returns-in-Wrong-clause-right
returns-in-Wrong-clause-right c limit stopped =
    c.refute.ensures.right limit (subst (IsStoppedAt c.args.tables.now.net (targets_of c.args.classes.now)
    (most_lines limit) c.args.stop.now.ahead) c.in-Wrong.is stopped)

pub returns-in-Wrong-clause-settles : goal.returns-in-Wrong-clause-settles
returns-in-Wrong-clause-settles c limit stopped =
    c.refute.ensures.settles limit (subst (IsStoppedAt c.args.tables.now.net (targets_of c.args.classes.now)
    (most_lines limit) c.args.stop.now.ahead) c.in-Wrong.is stopped)

pub returns-in-TooLarge-clause-right : goal.returns-in-TooLarge-clause-right
returns-in-TooLarge-clause-right c limit stopped =
    let large = subst (IsStoppedAt c.args.tables.now.net (targets_of c.args.classes.now) (most_lines limit)
    c.args.stop.now.ahead) c.in-TooLarge.is stopped in
    rw c.reached.ensures (record {
      ahead = c.args.stop.now.ahead;
      class_is = refl;
      path_is = refl;
      region_is =
          refl;
      large = large;
    })
