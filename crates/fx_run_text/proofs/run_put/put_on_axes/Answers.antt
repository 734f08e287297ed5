use Rattle.std.proofs.Common.{List, map, subst}
use Rattle.std.proofs.lemmas.List.{take_all}
use Rattle.std.proofs.lemmas.Option.{slice_get-get_or}
use Rattle.std.proofs.lemmas.Result.{err_from_is_err_and}
use Rattle.fx_base.proofs.Writing.{writes_both}
use Rattle.fx_base.specs.Device.{Writes}
use Rattle.fx_elements.specs.declared.axis.Axis.{Axis}
use Rattle.fx_elements.specs.Axes.{field}
use Rattle.fx_elements.specs.Values.{value_text}
use Rattle.fx_run_text.specs.RunLineText.{spaced_words}
use Rattle.fx_run_text.proofs.RunPutting.{spaced_next}
use Rattle.fx_run_text.proofs.run_put.put_on_axes.Goals as goal

pub loop-axis-preserved : goal.loop-axis-preserved
loop-axis-preserved g c =
    let taken = g.S.Sink.taken in
    let word = λ (axis : Axis). value_text axis (field c.args.fields.now axis) in
    record {
      taken = writes_both (taken c.args.sink.now) (taken c.loop-axis.sink) (taken c.put_field.new.sink) _ _ _
          c.loop-axis.invariant.taken c.in_ok-put_field.ensures.ok
          (spaced_next word c.args.axes.now c.loop-axis.axis-index _
          (slice_get-get_or c.args.axes.now c.loop-axis.axis-index _ c.loop-axis-test.true));
      going = λ going. c.in_ok-put_field.ensures.going (c.loop-axis.invariant.going going);
    }

pub returns-in_err-put_field : goal.returns-in_err-put_field
returns-in_err-put_field g c =
    let p = err_from_is_err_and c.from_residual.result c.from_residual.ensures.1 in
    rw (p.1, p.2) (record { ok = tt; going = tt; err = c.in_err-put_field.ensures.err })

pub returns : goal.returns
returns g c =
    let taken = g.S.Sink.taken in
    let word = λ (axis : Axis). value_text axis (field c.args.fields.now axis) in
    record {
      ok = subst (λ (items : List Axis). Writes (taken c.args.sink.now) (taken c.loop-axis.sink)
          (spaced_words (map word items))) (take_all c.loop-axis.axis-index c.args.axes.now c.loop-axis-test.false)
          c.loop-axis.invariant.taken;
      going = c.loop-axis.invariant.going;
      err = tt;
    }
