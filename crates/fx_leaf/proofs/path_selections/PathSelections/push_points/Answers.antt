use Rattle.std.proofs.Common.{◌≡◌, ◌+◌, ◌++◌, ◌∙◌, ◌∷◌, List, ap, arith, drop, length-append, sym}
use Rattle.fx_tables.specs.Network.{Point}
use Rattle.fx_leaf.specs.PathSelections.{crossing_selections, watching_selections}
use Rattle.fx_leaf.proofs.JoinedVerdicts.{drop_here}
use Rattle.fx_leaf.proofs.PathSelectionsGrow.{room_for}
use Rattle.fx_leaf.proofs.path_selections.PathSelections.push_points.Goals as goal

pub push_point-requires : goal.push_point-requires
push_point-requires c =
    let at = c.loop-index in
    let p = c.index-points-index.result in
    let crossing = c.args.crossing.now in
    let ps = c.args.points.now in
    let here : drop at.index ps ≡ p ∷ drop (at.index + 1) ps = drop_here ps at.index p c.loop-index-test.true
    ∙ ap (λ (x : Point). x ∷ drop (at.index + 1) ps) (sym c.index-points-index.is) in
    let every = crossing_selections c.args.number 1 ps crossing in
    let all = length-append c.args.self.now.items every in
    let room = at.invariant.1 in
    room_for at.self.items (watching_selections c.args.number (at.index + 1) crossing p)
    (crossing_selections c.args.number (at.index + 1 + 1) (drop (at.index + 1) ps) crossing)
    (c.args.self.now.items ++ every) at.self.room
    (ap (λ (xs : List Point). at.self.items ++ crossing_selections c.args.number (at.index + 1) xs crossing)
    (sym here) ∙ at.invariant.0) (omega (arith, all, room, c.requires))
