use Rattle.std.proofs.Common.{arith, rules}
use Rattle.std.proofs.Common.{◌≡◌, ◌⊎◌, inr, refl, sym, subst}
use Rattle.fx_base.specs.declared.fault.Fault.{Fault}
use Rattle.fx_net.specs.declared.stop.Stop.{Stop}
use Rattle.fx_net.specs.Running.{RunningNetwork, Acts, FailsOutside, RefusesLine, fault_of}
use Rattle.fx_net.proofs.Exits.{exit_with, outside_exit}
use Rattle.fx_net.proofs.LinesAreDone.{act_refused, obeys_by}
use Rattle.fx_net.proofs.network.Network.try_line.Goals as goal

pub returns-in_err-act-clause-err : goal.returns-in_err-act-clause-err
returns-in_err-act-clause-err g c =
    let failed = g.L.Links.failed c.args.links.now in
    let line = c.args.line.now in
    exit_with c.from_residual.result c.in_err-act.field-0.0
    (λ (s : Stop). FailsOutside failed (fault_of s)
    ⊎ RefusesLine line.bytes.now line.number c.args.self.now c.args.capture.now c.act.new.capture (fault_of s))
    c.from_residual.ensures
    (act_refused line.bytes.now c.in-Some.asked line.number c.args.self.now c.args.capture.now c.act.new.capture failed
    c.in_err-act.field-0.0 c.in-Some.ensures c.in_err-act.ensures.err)

pub returns-in_err-act-clause-links : goal.returns-in_err-act-clause-links
returns-in_err-act-clause-links g c =
    let failed = g.L.Links.failed c.args.links.now in
    exit_with c.from_residual.result c.in_err-act.field-0.0
    (λ (s : Stop). FailsOutside failed (fault_of s) ⊎ (c.args.links.now ≡ c.args.links.now)) c.from_residual.ensures
    (inr refl)

pub returns-in_err-finish-clause-links : goal.returns-in_err-finish-clause-links
returns-in_err-finish-clause-links g c =
    outside_exit c.from_residual-in_err-finish.result c.in_err-finish.field-0.0 (g.L.Links.failed c.finish.new.links)
    (λ (e : Fault). c.finish.new.links ≡ c.args.links.now) c.from_residual-in_err-finish.ensures
    c.in_err-finish.ensures.err

pub returns-in_err-finish-clause-err : goal.returns-in_err-finish-clause-err
returns-in_err-finish-clause-err g c =
    outside_exit c.from_residual-in_err-finish.result c.in_err-finish.field-0.0 (g.L.Links.failed c.finish.new.links)
    (λ (e : Fault). RefusesLine c.args.line.now.bytes.now c.args.line.now.number c.args.self.now c.args.capture.now
    c.act.new.capture e)
    c.from_residual-in_err-finish.ensures c.in_err-finish.ensures.err

pub returns-clause-ok : goal.returns-clause-ok
returns-clause-ok g c =
    obeys_by c.args.line.now.bytes.now c.in-Some.asked c.args.self.now _ c.args.capture.now c.act.new.capture
    (g.L.Links.put_on c.args.links.now) (g.L.Links.put_on c.finish.new.links) c.finish.new.self
    c.in-Some.ensures
    (subst (λ (r : RunningNetwork). Acts c.in-Some.asked c.args.self.now r c.args.capture.now c.act.new.capture)
    (sym c.self.view_is) c.in_ok-act.ensures.ok)
    c.in_ok-finish.ensures.put c.in_ok-finish.ensures.ok

pub returns-in_default-clause-err : goal.returns-in_default-clause-err
returns-in_default-clause-err g c = first_of (grind arith, search rules)

pub returns-in_default-clause-links : goal.returns-in_default-clause-links
returns-in_default-clause-links g c = first_of (grind arith, search rules)
