use Rattle.std.proofs.Common.{ap, arith}
use Rattle.fx_leaf.proofs.JoinedVerdicts.{drop_none}
use Rattle.fx_leaf.proofs.PathSelectionsGrow.{count_watching, length_crossing}
use Rattle.fx_leaf.proofs.path_selections.count_on_crossing.Goals as goal

pub returns : goal.returns
returns c = λ number n.
    let ps = c.args.points.now in
    let past = c.loop-point-test.false in
    let none = ap (count_watching c.args.crossing.now) (drop_none ps c.loop-point.point-index (omega (arith, past))) in
    let all = c.loop-point.invariant in
    omega (arith, length_crossing number n ps c.args.crossing.now, none, all)
