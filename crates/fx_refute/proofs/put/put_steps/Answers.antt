use Rattle.std.proofs.Common.{List, length, refl, subst}
use Rattle.std.proofs.lemmas.List.{take_all}
use Rattle.std.proofs.lemmas.Option.{slice_get_read}
use Rattle.std.proofs.lemmas.Result.{err_from_is_err_and}
use Rattle.fx_base.proofs.Writing.{writes_both}
use Rattle.fx_base.specs.Device.{Writes}
use Rattle.fx_run_text.specs.declared.step.Step.{Step}
use Rattle.fx_refute.specs.RefutationText.{steps_text}
use Rattle.fx_refute.proofs.RefutationTexts.{steps_next}
use Rattle.fx_refute.proofs.put.put_steps.Goals as goal

pub loop-step-preserved : goal.loop-step-preserved
loop-step-preserved g c =
    let taken = g.S.Sink.taken in
    record {
      taken = writes_both (taken c.args.sink.now) (taken c.loop-step.sink) (taken c.put_step_line.new.sink) _ _ _
          c.loop-step.invariant.taken c.in_ok-put_step_line.ensures.ok
          (steps_next c.args.steps.now c.loop-step.step-index c.step-item.result
          (slice_get_read c.args.steps.now (length c.args.steps.now) c.loop-step.step-index c.step-item.result refl
          c.loop-step-test.true c.step-item.is));
      going = λ going. c.in_ok-put_step_line.ensures.going (c.loop-step.invariant.going going);
    }

pub returns-in_err-put_step_line : goal.returns-in_err-put_step_line
returns-in_err-put_step_line g c =
    let p = err_from_is_err_and c.from_residual.result c.from_residual.ensures.1 in
    rw (p.1, p.2) (record { ok = tt; going = tt; err = c.in_err-put_step_line.ensures.err })

pub returns : goal.returns
returns g c =
    let taken = g.S.Sink.taken in
    record {
      ok = subst (λ (steps : List Step). Writes (taken c.args.sink.now) (taken c.loop-step.sink) (steps_text steps))
          (take_all c.loop-step.step-index c.args.steps.now c.loop-step-test.false) c.loop-step.invariant.taken;
      going = c.loop-step.invariant.going;
      err = tt;
    }
