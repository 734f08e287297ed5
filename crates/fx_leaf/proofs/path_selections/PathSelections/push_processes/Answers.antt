use Rattle.std.proofs.Common.{◌+◌, ap, arith, drop, length, length-append, length-drop}
use Rattle.fx_leaf.specs.PathSelections.{point_selections}
use Rattle.fx_leaf.proofs.PathSelectionsGrow.{length_point}
use Rattle.fx_leaf.proofs.path_selections.PathSelections.push_processes.Goals as goal

pub push-requires : goal.push-requires
push-requires c =
    let at = c.loop-index in
    let ss = c.args.processes.now in
    let rest = drop at.index ss in
    let lt = c.loop-index-test.true in
    let coming = point_selections c.args.crossing c.args.point (at.index + 1) rest in
    let every = point_selections c.args.crossing c.args.point 1 ss in
    let same = ap length at.invariant.0 in
    let one = length-append at.self.items coming in
    let all = length-append c.args.self.now.items every in
    let some = length_point c.args.crossing c.args.point (at.index + 1) rest in
    let whole = length_point c.args.crossing c.args.point 1 ss in
    let left = length-drop at.index ss in
    let room = at.invariant.1 in
    omega (arith, lt, same, one, all, some, whole, left, room, c.requires)
