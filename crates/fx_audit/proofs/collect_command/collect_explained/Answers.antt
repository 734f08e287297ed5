use Rattle.fx_audit.proofs.Collects.{collect_done, collect_refused, collect_unread}
use Rattle.fx_checker.proofs.Documents.{exit_with}
use Rattle.fx_audit.proofs.collect_command.collect_explained.Goals as goal
use Rattle.fx_checker.proofs.Faultless.{network_faultless}

pub returns-clause-ok : goal.returns-clause-ok
returns-clause-ok g c =
    collect_done (g.N.Source.left c.args.network.now) (g.R.Source.left c.args.stream.now) c.in_ok-plan.plan
    c.net.result.now _ _ c.collect.result c.net.ensures.value c.in_ok-plan.ensures.ok c.collect.ensures.ok

pub returns-clause-err : goal.returns-clause-err
returns-clause-err g c =
    collect_refused (g.N.Source.left c.args.network.now) (g.R.Source.left c.args.stream.now) c.in_ok-plan.plan _ _ _ _
    c.collect.result c.in_ok-plan.ensures.ok c.collect.ensures.err

pub returns-clause-untouched : goal.returns-clause-untouched
returns-clause-untouched g c = network_faultless (g.N.Source.left c.args.network.now) c.in_ok-plan.plan _
    c.in_ok-plan.ensures.ok

pub returns-in_err-plan-clause-err : goal.returns-in_err-plan-clause-err
returns-in_err-plan-clause-err g c =
    exit_with _ _ _ c.from_residual.ensures
    (collect_unread (g.N.Source.left c.args.network.now) (g.R.Source.left c.args.stream.now) _ _ _ _ _
    c.in_err-plan.ensures.err)
