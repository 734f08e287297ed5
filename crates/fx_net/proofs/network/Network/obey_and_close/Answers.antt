use Rattle.std.proofs.Common.{◌⊎◌}
use Rattle.fx_base.specs.declared.fault.Fault.{Fault}
use Rattle.fx_net.specs.Running.{FailsOutside, RefusesClose, RefusesRun}
use Rattle.fx_net.proofs.Exits.{err_weaker, run_refused}
use Rattle.fx_net.proofs.network.Network.obey_and_close.Goals as goal

pub returns-clause-err : goal.returns-clause-err
returns-clause-err g c =
    err_weaker c.close.result
    (λ (e : Fault). FailsOutside (g.L.Links.failed c.close.new.links) e
    ⊎ RefusesClose c.obey_all.new.self c.obey_all.new.capture c.close.new.capture e)
    (λ (e : Fault). FailsOutside (g.L.Links.failed c.close.new.links) e
    ⊎ RefusesRun c.args.self.now c.args.capture.now c.close.new.capture c.args.schedule.now c.obey_all.new.schedule
    (g.L.Links.put_on c.args.links.now) e)
    (λ e h. run_refused c.args.self.now c.obey_all.new.self c.args.capture.now c.obey_all.new.capture
    c.close.new.capture c.args.schedule.now c.obey_all.new.schedule (g.L.Links.put_on c.args.links.now)
    (g.L.Links.put_on c.obey_all.new.links) (g.L.Links.failed c.close.new.links) e c.in_ok-obey_all.ensures.ok h)
    (c.close.ensures.err c.in_ok-obey_all.ensures.faultless)
