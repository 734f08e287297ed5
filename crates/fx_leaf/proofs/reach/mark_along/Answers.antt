use Rattle.std.proofs.Common.{◌≡◌, ◌∙◌, ap, List}
use Rattle.fx_tables.specs.Network.{Net, Point, points_of}
use Rattle.fx_base.specs.Entries.{entry_numbered}
use Rattle.fx_leaf.specs.Reach.{marks_by_holders, holders_at}
use Rattle.fx_leaf.proofs.MarksAreClosed.{crossings_more}
use Rattle.fx_leaf.proofs.reach.mark_along.Goals as goal

pub loop-crossing-preserved : goal.loop-crossing-preserved
loop-crossing-preserved c =
    let t = c.args.tables.now in
    let x = c.crossing-item.result in
    let points : c.points_of.result.now ≡ points_of (entry_numbered t.net.devices x.device) = c.points_of.ensures
    ∙ ap (λ (n : Net). points_of (entry_numbered n.devices x.device)) c.net.ensures in
    let now = c.mark_at_points.ensures ∙ ap (λ (ps : List Point). marks_by_holders t.net t.numbering
    c.loop-crossing.marks (holders_at ps x)) points in
    crossings_more t.net t.numbering c.loop-crossing.marks c.mark_at_points.new.marks c.loop-crossing.crossing-index
    c.args.path.now x c.loop-crossing-test.true c.crossing-item.is now ∙ c.loop-crossing.invariant
