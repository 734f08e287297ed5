use Rattle.std.proofs.Common.{[], ◌∷◌, decimal, refl}
use Rattle.std.proofs.lemmas.Result.{err_from_is_err_and}
use Rattle.fx_base.proofs.Writing.{going_then, writes_3}
use Rattle.fx_collect.proofs.report.put_number_line.Goals as goal

pub returns-in_err-put_text : goal.returns-in_err-put_text
returns-in_err-put_text g c =
    let p = err_from_is_err_and c.from_residual.result c.from_residual.ensures.1 in
    rw (p.1, p.2) (record { ok = tt; going = tt; err = c.in_err-put_text.ensures.err })

pub returns-in_err-put_number : goal.returns-in_err-put_number
returns-in_err-put_number g c =
    let p = err_from_is_err_and c.from_residual-in_err-put_number.result c.from_residual-in_err-put_number.ensures.1 in
    rw (p.1, p.2) (record { ok = tt; going = tt; err = c.in_err-put_number.ensures.err })

pub returns : goal.returns
returns g c =
    let taken = g.S.Sink.taken in
    let failed = g.S.Sink.failed in
    record {
      ok = writes_3 c.put_text-2.result (taken c.args.sink.now) (taken c.put_text.new.sink)
          (taken c.put_number.new.sink) (taken c.put_text-2.new.sink) c.args.word.now (decimal c.args.number) (10 ∷ [])
          _ c.in_ok-put_text.ensures.ok c.in_ok-put_number.ensures.ok c.put_text-2.ensures.ok refl;
      going = going_then c.put_text-2.result (failed c.args.sink.now) (failed c.put_text.new.sink)
          (failed c.put_text-2.new.sink) c.in_ok-put_text.ensures.going
          (going_then c.put_text-2.result (failed c.put_text.new.sink) (failed c.put_number.new.sink)
          (failed c.put_text-2.new.sink) c.in_ok-put_number.ensures.going c.put_text-2.ensures.going);
      err = c.put_text-2.ensures.err;
    }
