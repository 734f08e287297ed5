use Rattle.std.proofs.lemmas.Result.{err_from_is_err_and}
use Rattle.std.proofs.Common.{codes}
use Rattle.fx_elements.specs.Axes.{field}
use Rattle.fx_elements.specs.Values.{leading_text}
use Rattle.fx_base.proofs.Writing.{going_then, writes_2}
use Rattle.fx_run_text.proofs.RunPutting.{field_put}
use Rattle.fx_run_text.proofs.run_put.put_field.Goals as goal

pub returns-in_err-put_text : goal.returns-in_err-put_text
returns-in_err-put_text g c =
    let p = err_from_is_err_and c.from_residual.result c.from_residual.ensures.1 in
    rw (p.1, p.2) (record { ok = tt; going = tt; err = c.in_err-put_text.ensures.err })

pub returns : goal.returns
returns g c =
    let taken = g.S.Sink.taken in
    let axis = c.args.axis in
    let failed = g.S.Sink.failed in
    record {
      ok = writes_2 c.put_value.result (taken c.args.sink.now) (taken c.put_text.new.sink) (taken c.put_value.new.sink)
          (codes " ") (leading_text axis c.width.result c.get.result) _ c.in_ok-put_text.ensures.ok
          c.put_value.ensures.ok (field_put axis (field c.args.fields.now axis) c.width.result c.get.result
          c.width.ensures.bits c.get.ensures);
      going = going_then c.put_value.result (failed c.args.sink.now) (failed c.put_text.new.sink)
          (failed c.put_value.new.sink) c.in_ok-put_text.ensures.going c.put_value.ensures.going;
      err = c.put_value.ensures.err;
    }
