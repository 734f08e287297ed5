use Rattle.std.proofs.Common.{arith}
use Rattle.fx_leaf.proofs.PathSelectionsGrow.{watching_length}
use Rattle.fx_leaf.proofs.path_selections.PathSelections.push_point.Goals as goal

pub push_processes-requires : goal.push_processes-requires
push_processes-requires c =
    let same = watching_length c.args.number c.args.place c.args.crossing.now c.args.point.now c.watches.result
    c.watches.ensures c.if-watches.true in
    rw c.selections.ensures (omega (arith, same, c.requires))
