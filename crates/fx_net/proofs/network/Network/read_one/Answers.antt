use Rattle.std.proofs.Common.{arith, rules}
use Rattle.std.proofs.Common.{◌≡◌, sym, subst}
use Rattle.fx_plan.specs.Tables.{net_of}
use Rattle.fx_net.specs.declared.action.Action.TheVariants as action
use Rattle.fx_net.specs.Doings.{ReadsFrame}
use Rattle.fx_net.specs.Running.{RunningNetwork}
use Rattle.fx_net.proofs.LinesAreDone.{reads_one_by}
use Rattle.fx_net.proofs.network.Network.read_one.Goals as goal

pub returns-clause-ok : goal.returns-clause-ok
returns-clause-ok g c =
    let old = c.args.self.now in
    reads_one_by old _ c.args.capture.now.seen (g.L.Links.put_on c.args.links.now) (g.L.Links.put_on c.finish.new.links)
    c.finish.new.self
    (subst (λ (r : RunningNetwork). ReadsFrame (net_of old.network) old.classes action.Next c.args.capture.now.seen
    old.contents r.contents) (sym c.self.view_is) (c.in_ok-meter_first.ensures.read c.if-not-branch.false))
    (subst (λ (r : RunningNetwork). r ≡ record old { contents = r.contents }) (sym c.self.view_is)
    c.in_ok-meter_first.ensures.rest)
    c.in_ok-finish.ensures.put c.in_ok-finish.ensures.ok

pub returns-then-not-branch-clause-ok : goal.returns-then-not-branch-clause-ok
returns-then-not-branch-clause-ok g c = first_of (grind arith, search rules)
