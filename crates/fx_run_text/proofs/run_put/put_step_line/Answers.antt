use Rattle.std.proofs.lemmas.Result.{err_from_is_err_and}
use Rattle.fx_base.proofs.Writing.{going_then, writes_then}
use Rattle.fx_run_text.proofs.run_put.put_step_line.Goals as goal

pub returns-in_err-put_step : goal.returns-in_err-put_step
returns-in_err-put_step g c =
    let p = err_from_is_err_and c.from_residual.result c.from_residual.ensures.1 in
    rw (p.1, p.2) (record { ok = tt; going = tt; err = c.in_err-put_step.ensures.err })

pub returns : goal.returns
returns g c =
    let taken = g.S.Sink.taken in
    let failed = g.S.Sink.failed in
    record {
      ok = writes_then c.put_text.result (taken c.args.sink.now) (taken c.put_step.new.sink) (taken c.put_text.new.sink)
          _ _ c.in_ok-put_step.ensures.ok c.put_text.ensures.ok;
      going = going_then c.put_text.result (failed c.args.sink.now) (failed c.put_step.new.sink)
          (failed c.put_text.new.sink) c.in_ok-put_step.ensures.going c.put_text.ensures.going;
      err = c.put_text.ensures.err;
    }
