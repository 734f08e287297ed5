use Rattle.std.proofs.Common.{◌∙◌, ap}
use Rattle.fx_tables.specs.Network.{Net}
use Rattle.fx_checker.proofs.Documents.{exit_with}
use Rattle.fx_audit.proofs.Sums.{sum_refused, sum_unread}
use Rattle.fx_audit.proofs.sum_command.sum_explained.Goals as goal
use Rattle.fx_checker.proofs.Faultless.{network_faultless}

pub returns-in_err-plan-clause-err : goal.returns-in_err-plan-clause-err
returns-in_err-plan-clause-err g c =
    exit_with _ _ _ c.from_residual.ensures
    (sum_unread (g.N.Source.left c.args.network.now) c.args.texts.now c.in_err-plan.field-0.0 _ _ _ _
    c.in_err-plan.ensures.err)

pub returns-clause-err : goal.returns-clause-err
returns-clause-err g c =
    sum_refused (g.N.Source.left c.args.network.now) c.in_ok-plan.plan c.report_layout.result.now c.args.texts.now _ _ _
    _ c.sum_lines.result
    (c.report_layout.ensures.value ∙ ap (λ (x : Net). x.report_layout) c.net.ensures.value) c.in_ok-plan.ensures.ok
    c.sum_lines.ensures.err

pub returns-clause-untouched : goal.returns-clause-untouched
returns-clause-untouched g c = network_faultless (g.N.Source.left c.args.network.now) c.in_ok-plan.plan _
    c.in_ok-plan.ensures.ok
