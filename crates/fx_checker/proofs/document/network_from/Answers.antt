use Rattle.serde_json.specs.View.{view}
use Rattle.fx_checker.specs.Documents.{ReadFails}
use Rattle.fx_checker.proofs.Documents.{exit_with, network_read, network_refused, no_network}
use Rattle.fx_checker.proofs.document.network_from.Goals as goal

pub returns-clause-ok : goal.returns-clause-ok
returns-clause-ok g c =
    network_read (g.R.Source.left c.args.source.now) c.in_ok-octets.octets.items c.as_slice.result.now
    (view c.in_ok-value.value) c.in_ok-octets.ensures.all c.as_slice.ensures.value c.in_ok-value.ensures.ok
    c.plan_from.result c.plan_from.ensures

pub returns-clause-err : goal.returns-clause-err
returns-clause-err g c =
    network_refused (g.R.Source.left c.args.source.now) c.in_ok-octets.octets.items c.as_slice.result.now
    (view c.in_ok-value.value) (λ e. ReadFails (g.R.Source.left c.args.source.now)
    (g.R.Source.calls c.args.source.now) (g.R.Source.calls c.read_whole.new.source)
    (g.R.Source.failed c.read_whole.new.source) e) c.in_ok-octets.ensures.all c.as_slice.ensures.value
    c.in_ok-value.ensures.ok c.plan_from.result c.plan_from.ensures

pub returns-in_err-value-clause-err : goal.returns-in_err-value-clause-err
returns-in_err-value-clause-err g c =
    exit_with _ _ _ c.from_residual-in_err-value.ensures
    (no_network (g.R.Source.left c.args.source.now) c.in_ok-octets.octets.items c.as_slice.result.now _ _
    c.in_ok-octets.ensures.all c.as_slice.ensures.value c.in_err-value.ensures.err)
