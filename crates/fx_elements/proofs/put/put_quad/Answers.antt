use Rattle.std.proofs.lemmas.Result.{err_from_is_err_and}
use Rattle.fx_base.proofs.Writing.{writes_then, going_then}
use Rattle.fx_elements.proofs.put.put_quad.Goals as goal

pub returns-in_err-put_number_wide : goal.returns-in_err-put_number_wide
returns-in_err-put_number_wide g c =
    let p = err_from_is_err_and c.from_residual.result c.from_residual.ensures.1 in
    rw (p.1, p.2) (record { ok = tt; going = tt; err = c.in_err-put_number_wide.ensures.err })

pub returns-in_err-put_text : goal.returns-in_err-put_text
returns-in_err-put_text g c =
    let p = err_from_is_err_and c.from_residual-in_err-put_text.result c.from_residual-in_err-put_text.ensures.1 in
    rw (p.1, p.2) (record { ok = tt; going = tt; err = c.in_err-put_text.ensures.err })

pub returns-in_err-put_number_wide-2 : goal.returns-in_err-put_number_wide-2
returns-in_err-put_number_wide-2 g c =
    let p = err_from_is_err_and c.from_residual-in_err-put_number_wide-2.result
    c.from_residual-in_err-put_number_wide-2.ensures.1 in
    rw (p.1, p.2) (record { ok = tt; going = tt; err = c.in_err-put_number_wide-2.ensures.err })

pub returns-in_err-put_text-2 : goal.returns-in_err-put_text-2
returns-in_err-put_text-2 g c =
    let p = err_from_is_err_and c.from_residual-in_err-put_text-2.result c.from_residual-in_err-put_text-2.ensures.1 in
    rw (p.1, p.2) (record { ok = tt; going = tt; err = c.in_err-put_text-2.ensures.err })

pub returns-in_err-put_number_wide-3 : goal.returns-in_err-put_number_wide-3
returns-in_err-put_number_wide-3 g c =
    let p = err_from_is_err_and c.from_residual-in_err-put_number_wide-3.result
    c.from_residual-in_err-put_number_wide-3.ensures.1 in
    rw (p.1, p.2) (record { ok = tt; going = tt; err = c.in_err-put_number_wide-3.ensures.err })

pub returns-in_err-put_text-3 : goal.returns-in_err-put_text-3
returns-in_err-put_text-3 g c =
    let p = err_from_is_err_and c.from_residual-in_err-put_text-3.result c.from_residual-in_err-put_text-3.ensures.1 in
    rw (p.1, p.2) (record { ok = tt; going = tt; err = c.in_err-put_text-3.ensures.err })

pub returns : goal.returns
returns g c =
    let taken = g.S.Sink.taken in
    let failed = g.S.Sink.failed in
    record {
      ok = writes_then c.put_number_wide-4.result (taken c.args.sink.now) (taken c.put_number_wide.new.sink)
          (taken c.put_number_wide-4.new.sink) _ _ c.in_ok-put_number_wide.ensures.ok
          (writes_then c.put_number_wide-4.result (taken c.put_number_wide.new.sink) (taken c.put_text.new.sink)
          (taken c.put_number_wide-4.new.sink) _ _ c.in_ok-put_text.ensures.ok
          (writes_then c.put_number_wide-4.result (taken c.put_text.new.sink) (taken c.put_number_wide-2.new.sink)
          (taken c.put_number_wide-4.new.sink) _ _ c.in_ok-put_number_wide-2.ensures.ok
          (writes_then c.put_number_wide-4.result (taken c.put_number_wide-2.new.sink) (taken c.put_text-2.new.sink)
          (taken c.put_number_wide-4.new.sink) _ _ c.in_ok-put_text-2.ensures.ok
          (writes_then c.put_number_wide-4.result (taken c.put_text-2.new.sink) (taken c.put_number_wide-3.new.sink)
          (taken c.put_number_wide-4.new.sink) _ _ c.in_ok-put_number_wide-3.ensures.ok
          (writes_then c.put_number_wide-4.result (taken c.put_number_wide-3.new.sink) (taken c.put_text-3.new.sink)
          (taken c.put_number_wide-4.new.sink) _ _ c.in_ok-put_text-3.ensures.ok c.put_number_wide-4.ensures.ok)))));
      going = going_then c.put_number_wide-4.result (failed c.args.sink.now) (failed c.put_number_wide.new.sink)
          (failed c.put_number_wide-4.new.sink) c.in_ok-put_number_wide.ensures.going
          (going_then c.put_number_wide-4.result (failed c.put_number_wide.new.sink) (failed c.put_text.new.sink)
          (failed c.put_number_wide-4.new.sink) c.in_ok-put_text.ensures.going
          (going_then c.put_number_wide-4.result (failed c.put_text.new.sink) (failed c.put_number_wide-2.new.sink)
          (failed c.put_number_wide-4.new.sink) c.in_ok-put_number_wide-2.ensures.going
          (going_then c.put_number_wide-4.result (failed c.put_number_wide-2.new.sink) (failed c.put_text-2.new.sink)
          (failed c.put_number_wide-4.new.sink) c.in_ok-put_text-2.ensures.going
          (going_then c.put_number_wide-4.result (failed c.put_text-2.new.sink) (failed c.put_number_wide-3.new.sink)
          (failed c.put_number_wide-4.new.sink) c.in_ok-put_number_wide-3.ensures.going
          (going_then c.put_number_wide-4.result (failed c.put_number_wide-3.new.sink) (failed c.put_text-3.new.sink)
          (failed c.put_number_wide-4.new.sink) c.in_ok-put_text-3.ensures.going c.put_number_wide-4.ensures.going)))));
      err = c.put_number_wide-4.ensures.err;
    }
