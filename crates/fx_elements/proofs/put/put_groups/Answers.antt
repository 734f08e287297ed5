use Rattle.std.proofs.lemmas.Result.{err_from_is_err_and}
use Rattle.fx_elements.specs.Groups.{groups}
use Rattle.fx_base.proofs.Writing.{writes_then, going_then}
use Rattle.fx_elements.proofs.put.put_groups.Goals as goal

pub returns-in_err-put_half : goal.returns-in_err-put_half
returns-in_err-put_half g c =
    let p = err_from_is_err_and c.from_residual.result c.from_residual.ensures.1 in
    rw (p.1, p.2) (record { ok = tt; going = tt; err = c.in_err-put_half.ensures.err })

pub returns-in_err-put_text : goal.returns-in_err-put_text
returns-in_err-put_text g c =
    let p = err_from_is_err_and c.from_residual-in_err-put_text.result c.from_residual-in_err-put_text.ensures.1 in
    rw (p.1, p.2) (record { ok = tt; going = tt; err = c.in_err-put_text.ensures.err })

pub returns : goal.returns
unfolding groups
returns g c =
    let taken = g.S.Sink.taken in
    let failed = g.S.Sink.failed in
    record {
      ok = writes_then c.put_half-2.result (taken c.args.sink.now) (taken c.put_half.new.sink)
          (taken c.put_half-2.new.sink) _ _ c.in_ok-put_half.ensures.ok
          (writes_then c.put_half-2.result (taken c.put_half.new.sink) (taken c.put_text.new.sink)
          (taken c.put_half-2.new.sink) _ _ c.in_ok-put_text.ensures.ok c.put_half-2.ensures.ok);
      going = going_then c.put_half-2.result (failed c.args.sink.now) (failed c.put_half.new.sink)
          (failed c.put_half-2.new.sink) c.in_ok-put_half.ensures.going
          (going_then c.put_half-2.result (failed c.put_half.new.sink) (failed c.put_text.new.sink)
          (failed c.put_half-2.new.sink) c.in_ok-put_text.ensures.going c.put_half-2.ensures.going);
      err = c.put_half-2.ensures.err;
    }
