use Rattle.std.proofs.Common.{◌∙◌}
use Rattle.std.proofs.lemmas.Result.{err_from_is_err_and}
use Rattle.fx_session.proofs.MessageSteps.{sets_read-first, sets_read-refused, sets_read-end}
use Rattle.fx_session.proofs.DataSteps.{grows_on}
use Rattle.fx_session.proofs.sets.take_sets.Goals as goal

pub loop-set-preserved : goal.loop-set-preserved
loop-set-preserved g c = record {
  same = c.loop-set.invariant.same ∙ sets_read-first _ _ _ _ _ c.in-Some.ensures.steps c.in_ok-take_set.ensures.done;
  grows = grows_on _ _ _ c.loop-set.invariant.grows c.take_set.ensures.grows;
}

pub returns-in_err-take_set-clause-done : goal.returns-in_err-take_set-clause-done
returns-in_err-take_set-clause-done g c =
    let p = err_from_is_err_and c.from_residual.result c.from_residual.ensures.1 in
    rw (p.1, p.2) (λ ne. c.loop-set.invariant.same
    ∙ sets_read-refused _ _ _ _ _ c.in-Some.ensures.steps (c.in_err-take_set.ensures.done ne))

pub returns-in_err-take_set-clause-grows : goal.returns-in_err-take_set-clause-grows
returns-in_err-take_set-clause-grows g c = grows_on _ _ _ c.loop-set.invariant.grows c.take_set.ensures.grows

pub returns-clause-done : goal.returns-clause-done
returns-clause-done g c = c.loop-set.invariant.same ∙ sets_read-end _ _ c.in_default.ensures.steps.0
