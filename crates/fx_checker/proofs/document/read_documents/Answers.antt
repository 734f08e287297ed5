use Rattle.fx_checker.proofs.Documents.{exit_with, first_refused, traffic_refused}
use Rattle.fx_checker.proofs.document.read_documents.Goals as goal
use Rattle.fx_checker.proofs.Faultless.{network_faultless}

pub returns-in_err-traffic-clause-err : goal.returns-in_err-traffic-clause-err
returns-in_err-traffic-clause-err g c =
    exit_with _ _ _ c.from_residual-in_err-traffic.ensures
    (traffic_refused (g.N.Source.left c.args.network.now) (g.T.Source.left c.args.traffic.now) c.in_ok-plan.plan _ _
    _ _ c.in_ok-plan.ensures.ok c.in_err-traffic.ensures.err)

pub returns-in_err-plan-clause-err : goal.returns-in_err-plan-clause-err
returns-in_err-plan-clause-err g c =
    exit_with _ _ _ c.from_residual.ensures
    (first_refused (g.N.Source.left c.args.network.now) (g.T.Source.left c.args.traffic.now) _ _ _ _
    c.in_err-plan.ensures.err)

pub returns-clause-order : goal.returns-clause-order
returns-clause-order g c = network_faultless (g.N.Source.left c.args.network.now) c.in_ok-plan.plan _
    c.in_ok-plan.ensures.ok

pub returns-in_err-traffic-clause-order : goal.returns-in_err-traffic-clause-order
returns-in_err-traffic-clause-order g c =
    network_faultless (g.N.Source.left c.args.network.now) c.in_ok-plan.plan _ c.in_ok-plan.ensures.ok
