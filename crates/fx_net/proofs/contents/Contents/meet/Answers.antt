use Rattle.std.proofs.Common.{◌∙◌}
use Rattle.std.proofs.lemmas.Result.{on_ok_weaker}
use Rattle.fx_tables.specs.Holdings.{met_holdings}
use Rattle.fx_net.proofs.StoresTakeIn.{taken_in_by}
use Rattle.fx_net.proofs.contents.Contents.meet.Goals as goal

pub returns-clause-ok : goal.returns-clause-ok
returns-clause-ok c =
    on_ok_weaker c.leave_both.result
    (λ left. left ∙ taken_in_by c.args.net.now c.args.counts
    (met_holdings c.args.net.now.holders c.args.fields.now c.args.met.now) _ c.args.self.now
    c.meet_all.new.stores.items c.new-leavers.result.left.items c.new-leavers.result.passing.items
    c.meet_all.new.leavers.left.items c.meet_all.new.leavers.passing.items
    c.self.view_is c.new-leavers.ensures.0 c.new-leavers.ensures.1 c.in_ok-meet_all.ensures.ok
    c.in_ok-meet_all.ensures.passing)
    c.leave_both.ensures.ok
