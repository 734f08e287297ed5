use Rattle.std.proofs.Common.{◌≡◌, ◌+◌, ◌++◌, ◌∙◌, ◌∷◌, ◌≤◌, List, ap, arith, drop, length, length-append, subst, sym}
use Rattle.fx_tables.specs.declared.traffic.Crossing.{Crossing}
use Rattle.fx_tables.specs.Network.{Point, points_of}
use Rattle.fx_base.specs.Entries.{entry_numbered}
use Rattle.fx_leaf.specs.PathSelections.{crossing_selections, path_selections}
use Rattle.fx_leaf.proofs.JoinedVerdicts.{drop_here}
use Rattle.fx_leaf.proofs.PathSelectionsGrow.{room_for}
use Rattle.fx_leaf.proofs.path_selections.PathSelections.push_path.Goals as goal

pub push_points-requires : goal.push_points-requires
push_points-requires c =
    let at = c.loop-index in
    let x = c.index-path-index.result in
    let net = c.args.net.now in
    let cs = c.args.path.now in
    let ps = points_of (entry_numbered net.devices x.device) in
    let here : drop at.index cs ≡ x ∷ drop (at.index + 1) cs = drop_here cs at.index x c.loop-index-test.true
    ∙ ap (λ (y : Crossing). y ∷ drop (at.index + 1) cs) (sym c.index-path-index.is) in
    let every = path_selections net 1 cs in
    let all = length-append c.args.self.now.items every in
    let room = at.invariant.1 in
    let fits = room_for at.self.items (crossing_selections (at.index + 1) 1 ps x)
    (path_selections net (at.index + 1 + 1) (drop (at.index + 1) cs)) (c.args.self.now.items ++ every) at.self.room
    (ap (λ (xs : List Crossing). at.self.items ++ path_selections net (at.index + 1) xs) (sym here)
    ∙ at.invariant.0) (omega (arith, all, room, c.requires)) in
    subst (λ (qs : List Point). length at.self.items + length (crossing_selections (at.index + 1) 1 qs x)
    ≤ at.self.room) (sym c.points_of.ensures) fits
