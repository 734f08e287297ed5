use Rattle.std.proofs.Common.{sym, subst}
use Rattle.fx_tables.specs.Network.{Net}
use Rattle.fx_net.specs.Doings.{EmptiesNetwork}
use Rattle.fx_net.specs.Running.{RunningNetwork, ReadsRest}
use Rattle.fx_net.proofs.FramesRead.{closes_by}
use Rattle.fx_net.proofs.network.Network.try_close.Goals as goal

pub returns-clause-ok : goal.returns-clause-ok
returns-clause-ok g c =
    let put = g.L.Links.put_on c.read_rest.new.links in
    let after = g.L.Links.put_on c.empty_network.new.links in
    closes_by c.args.self.now _ c.args.capture.now c.read_rest.new.capture (g.L.Links.put_on c.args.links.now) put after
    c.upwards.result.now c.empty_network.new.self
    (subst (λ (r : RunningNetwork). ReadsRest c.args.self.now r c.args.capture.now c.read_rest.new.capture
    (g.L.Links.put_on c.args.links.now) put) (sym c.self.view_is) c.in_ok-read_rest.ensures.ok)
    c.upwards.ensures.whole
    (subst (λ (n : Net). EmptiesNetwork n c.upwards.result.now put c.self.inside.contents after
    c.empty_network.new.self) c.net.ensures.value c.in_ok-empty_network.ensures.ok)
