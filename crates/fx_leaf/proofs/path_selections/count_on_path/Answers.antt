use Rattle.std.proofs.Common.{ap, arith}
use Rattle.fx_leaf.proofs.JoinedVerdicts.{drop_none}
use Rattle.fx_leaf.proofs.PathSelectionsGrow.{along_more, count_along, count_watching, length_crossing, length_path}
use Rattle.fx_leaf.proofs.path_selections.count_on_path.Goals as goal

pub loop-crossing-preserved : goal.loop-crossing-preserved
loop-crossing-preserved c =
    let crossing = c.crossing-item.result in
    let here = c.in_ok-count_on_crossing.ensures 1 1 in
    let points = ap (count_watching crossing) c.points_of.ensures in
    let same = length_crossing 1 1 c.points_of.result.now crossing in
    let more = along_more c.args.net.now c.args.path.now c.loop-crossing.crossing-index crossing
    c.loop-crossing-test.true c.crossing-item.is in
    let all = c.loop-crossing.invariant in
    let sum = c.in_ok-count.ensures in
    omega (arith, here, points, same, more, all, sum)

pub returns : goal.returns
returns c = λ n.
    let cs = c.args.path.now in
    let past = c.loop-crossing-test.false in
    let none = ap (count_along c.args.net.now) (drop_none cs c.loop-crossing.crossing-index (omega (arith, past))) in
    let all = c.loop-crossing.invariant in
    omega (arith, length_path c.args.net.now n cs, none, all)
