use Rattle.std.proofs.Common.{◌∙◌, arith}
use Rattle.std.proofs.lemmas.Result.{err_from_is_err_and}
use Rattle.fx_session.proofs.DataSteps.{flow_set-more, flow_set-refused, flow_set-padding, grows_on}
use Rattle.fx_session.proofs.data_set.take_flows.Goals as goal

pub loop-rest-smaller : goal.loop-rest-smaller
loop-rest-smaller c =
    let done = c.in_ok-rest.ensures.done in
    (flow_set-more c.args.template.now.fields c.loop-rest.taken c.loop-rest.rest.now _ (omega arith) (omega arith)
    done).1

pub loop-rest-preserved : goal.loop-rest-preserved
loop-rest-preserved c =
    let done = c.in_ok-rest.ensures.done in
    record {
      same = c.loop-rest.invariant.same ∙ (flow_set-more c.args.template.now.fields c.loop-rest.taken
          c.loop-rest.rest.now _ (omega arith) (omega arith) done).0;
      grows = grows_on _ _ _ c.loop-rest.invariant.grows c.take_flow.ensures.grows;
    }

pub returns-in_err-rest-clause-done : goal.returns-in_err-rest-clause-done
returns-in_err-rest-clause-done c =
    let p = err_from_is_err_and c.from_residual.result c.from_residual.ensures.1 in
    rw (p.1, p.2) (λ ne.
    let done = c.in_err-rest.ensures.done ne in
    c.loop-rest.invariant.same ∙ flow_set-refused c.args.template.now.fields c.loop-rest.taken c.loop-rest.rest.now _
    (omega arith) (omega arith) done)

pub returns-clause-done : goal.returns-clause-done
returns-clause-done c = c.loop-rest.invariant.same
    ∙ flow_set-padding c.args.template.now.fields c.loop-rest.taken c.loop-rest.rest.now (omega arith) (omega arith)
