use Rattle.std.proofs.lemmas.Result.{err_from_is_err_and}
use Rattle.fx_base.proofs.Writing.{writes_then, going_then}
use Rattle.fx_elements.proofs.put.put_value.Goals as goal

pub returns-in_err-put_whole : goal.returns-in_err-put_whole
returns-in_err-put_whole g c =
    let p = err_from_is_err_and c.from_residual.result c.from_residual.ensures.1 in
    rw (p.1, p.2) (record { ok = tt; going = tt; err = c.in_err-put_whole.ensures.err })

pub returns : goal.returns
returns g c =
    let taken = g.S.Sink.taken in
    let failed = g.S.Sink.failed in
    record {
      ok = rw (← c.first_with.ensures) (writes_then c.put_bits.result (taken c.args.sink.now)
          (taken c.put_whole.new.sink) (taken c.put_bits.new.sink) _ _ c.in_ok-put_whole.ensures.ok
          c.put_bits.ensures.ok);
      going = going_then c.put_bits.result (failed c.args.sink.now) (failed c.put_whole.new.sink)
          (failed c.put_bits.new.sink) c.in_ok-put_whole.ensures.going c.put_bits.ensures.going;
      err = c.put_bits.ensures.err;
    }
