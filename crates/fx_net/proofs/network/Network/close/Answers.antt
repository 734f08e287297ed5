use Rattle.std.proofs.Common.{arith, rules}
use Rattle.std.proofs.Common.{◌⊎◌, sym, subst}
use Rattle.fx_base.specs.declared.fault.Fault.{Fault}
use Rattle.fx_net.specs.Running.{FailsOutside, RefusesClose}
use Rattle.fx_net.proofs.network.Network.close.Goals as goal

pub returns-in-Err-clause-err : goal.returns-in-Err-clause-err
returns-in-Err-clause-err g c = λ _.
    subst (λ (e : Fault). FailsOutside (g.L.Links.failed c.try_close.new.links) e
    ⊎ RefusesClose c.args.self.now c.args.capture.now c.try_close.new.capture e) (sym c.fault-in-Err.ensures)
    c.in-Err.ensures.err

pub returns-in-Err-clause-stopped : goal.returns-in-Err-clause-stopped
returns-in-Err-clause-stopped g c = first_of (grind arith, search rules)

pub returns-in-Some-clause-untouched : goal.returns-in-Some-clause-untouched
returns-in-Some-clause-untouched g c = first_of (grind arith, search rules)
