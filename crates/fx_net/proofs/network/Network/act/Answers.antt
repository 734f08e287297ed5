use Rattle.std.proofs.Common.{refl, sym, subst}
use Rattle.fx_net.specs.declared.action.Action.{Action}
use Rattle.fx_net.specs.declared.action.Action.TheVariants as action
use Rattle.fx_net.specs.Running.{Acts}
use Rattle.fx_net.proofs.LinesAreDone.{both_ok, acts_next, acts_of, acts_expire, acts_emit, acts_carry, acts_use, names_nothing}
use Rattle.fx_net.proofs.network.Network.act.Goals as goal

pub returns-in-Next-clause-ok : goal.returns-in-Next-clause-ok
returns-in-Next-clause-ok g c =
    both_ok c.read_next.result c.read_next.ensures.ok c.read_next.ensures.rest
    (λ h rest. subst (λ (a : Action). Acts a c.args.self.now c.read_next.new.self c.args.capture.now
    c.read_next.new.capture) (sym c.in-Next.is)
    (acts_next c.args.self.now c.read_next.new.self c.args.capture.now c.read_next.new.capture h rest))

pub returns-in-NextOf-clause-ok : goal.returns-in-NextOf-clause-ok
returns-in-NextOf-clause-ok g c =
    both_ok c.read_of.result c.read_of.ensures.ok c.read_of.ensures.rest
    (λ h rest. subst (λ (a : Action). Acts a c.args.self.now c.read_of.new.self c.args.capture.now
    c.read_of.new.capture) (sym c.in-NextOf.is)
    (acts_of c.in-NextOf.class c.in-NextOf.path c.args.self.now c.read_of.new.self c.args.capture.now
    c.read_of.new.capture h rest))

pub returns-in-Expire-clause-ok : goal.returns-in-Expire-clause-ok
returns-in-Expire-clause-ok g c =
    both_ok c.expire.result c.expire.ensures.ok c.expire.ensures.rest
    (λ h rest. subst (λ (a : Action). Acts a c.args.self.now c.expire.new.self c.args.capture.now c.args.capture.now)
    (sym c.in-Expire.is) (acts_expire c.in-Expire.device c.in-Expire.cache c.args.self.now c.expire.new.self
    c.args.capture.now h rest))

pub returns-in-Emit-clause-ok : goal.returns-in-Emit-clause-ok
returns-in-Emit-clause-ok g c =
    both_ok c.expire-in-Emit.result c.expire-in-Emit.ensures.ok c.expire-in-Emit.ensures.rest
    (λ h rest. subst (λ (a : Action). Acts a c.args.self.now c.expire-in-Emit.new.self c.args.capture.now
    c.args.capture.now) (sym c.in-Emit.is) (acts_emit c.in-Emit.device c.in-Emit.process c.in-Emit.aggregation
    c.args.self.now c.expire-in-Emit.new.self c.args.capture.now h rest))

pub returns-in-Use-clause-ok : goal.returns-in-Use-clause-ok
returns-in-Use-clause-ok g c =
    both_ok c.use_destination.result c.use_destination.ensures.ok c.use_destination.ensures.rest
    (λ h rest. subst (λ (a : Action). Acts a c.args.self.now c.use_destination.new.self c.args.capture.now
    c.args.capture.now) (sym c.in-Use.is) (acts_use c.in-Use.device c.in-Use.exporter c.in-Use.destination
    c.args.self.now c.use_destination.new.self c.args.capture.now h rest))

pub returns-in-Carry-clause-ok : goal.returns-in-Carry-clause-ok
returns-in-Carry-clause-ok g c =
    both_ok c.carry.result c.carry.ensures.ok c.carry.ensures.rest
    (λ h rest. subst (λ (a : Action). Acts a c.args.self.now c.carry.new.self c.args.capture.now c.args.capture.now)
    (sym c.in-Carry.is) (acts_carry c.in-Carry.link c.in-Carry.octets c.args.self.now c.carry.new.self
    c.args.capture.now h rest))

pub returns-in-Expire-clause-err : goal.returns-in-Expire-clause-err
returns-in-Expire-clause-err g c =
    names_nothing c.expire.result c.args.self.now c.args.capture.now c.args.capture.now c.args.line c.args.asked
    (action.Expire c.in-Expire.device c.in-Expire.cache) c.in-Expire.is (λ h. (h, refl)) c.expire.ensures.err

pub returns-in-Emit-clause-err : goal.returns-in-Emit-clause-err
returns-in-Emit-clause-err g c =
    names_nothing c.expire-in-Emit.result c.args.self.now c.args.capture.now c.args.capture.now c.args.line c.args.asked
    (action.Emit c.in-Emit.device c.in-Emit.process c.in-Emit.aggregation) c.in-Emit.is (λ h. (h, refl))
    c.expire-in-Emit.ensures.err

pub returns-in-Carry-clause-err : goal.returns-in-Carry-clause-err
returns-in-Carry-clause-err g c =
    names_nothing c.carry.result c.args.self.now c.args.capture.now c.args.capture.now c.args.line c.args.asked
    (action.Carry c.in-Carry.link c.in-Carry.octets) c.in-Carry.is (λ h. (h, refl)) c.carry.ensures.err

pub returns-in-Use-clause-err : goal.returns-in-Use-clause-err
returns-in-Use-clause-err g c =
    names_nothing c.use_destination.result c.args.self.now c.args.capture.now c.args.capture.now c.args.line
    c.args.asked (action.Use c.in-Use.device c.in-Use.exporter c.in-Use.destination) c.in-Use.is (λ h. (h, refl))
    c.use_destination.ensures.err
