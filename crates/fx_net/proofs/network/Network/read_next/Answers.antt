use Rattle.std.proofs.Common.{arith, rules}
use Rattle.std.proofs.Common.{refl}
use Rattle.fx_base.specs.declared.fault.Fault.{Fault}
use Rattle.fx_net.specs.declared.action.Action.TheVariants as action
use Rattle.fx_net.specs.Running.{RefusesAction, capture_refused}
use Rattle.fx_net.proofs.Exits.{refused_exit}
use Rattle.fx_net.proofs.network.Network.read_next.Goals as goal

pub returns-in_err-advance-clause-err : goal.returns-in_err-advance-clause-err
returns-in_err-advance-clause-err g c =
    refused_exit c.from_residual.result c.in_err-advance.field-0.0
    (λ (e : Fault). RefusesAction c.args.self.now c.args.capture.now c.advance.new.self c.args.line action.Next e)
    c.from_residual.ensures c.in_err-advance.ensures.reported (capture_refused refl c.in_err-advance.ensures.advances)

pub returns-then-not-branch-2-clause-err : goal.returns-then-not-branch-2-clause-err
returns-then-not-branch-2-clause-err g c = first_of (grind arith, search rules)
