use Rattle.fx_checker.proofs.Documents.{exit_with}
use Rattle.fx_join.proofs.Wholes.{first_refused, network_faultless, traffic_refused}
use Rattle.fx_join.proofs.whole.read_both.Goals as goal

pub returns-in_err-network-clause-err : goal.returns-in_err-network-clause-err
returns-in_err-network-clause-err g c =
    exit_with _ _ _ c.from_residual.ensures
    (first_refused (g.N.Source.left c.args.network.now) (g.T.Source.left c.args.traffic.now) _ _ _ _
    c.in_err-network.ensures.err)

pub returns-in_err-traffic-clause-err : goal.returns-in_err-traffic-clause-err
returns-in_err-traffic-clause-err g c =
    exit_with _ _ _ c.from_residual-in_err-traffic.ensures
    (traffic_refused (g.N.Source.left c.args.network.now) (g.T.Source.left c.args.traffic.now) c.in_ok-network.network _
    _ _ _ c.in_ok-network.ensures.ok (rw c.network-2.ensures at c.in_err-traffic.ensures.err))

pub returns-in_err-traffic-clause-order : goal.returns-in_err-traffic-clause-order
returns-in_err-traffic-clause-order g c =
    network_faultless (g.N.Source.left c.args.network.now) c.in_ok-network.network _ c.in_ok-network.ensures.ok

pub returns-clause-order : goal.returns-clause-order
returns-clause-order g c =
    network_faultless (g.N.Source.left c.args.network.now) c.in_ok-network.network _ c.in_ok-network.ensures.ok
