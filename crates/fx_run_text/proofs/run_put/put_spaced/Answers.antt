use Rattle.std.proofs.Common.{List, ℕ, ◌∷◌, ap, decimal}
use Rattle.std.proofs.lemmas.List.{append-nil}
use Rattle.std.proofs.lemmas.Result.{err_from_is_err_and}
use Rattle.fx_base.proofs.Writing.{going_then, writes_2}
use Rattle.fx_run_text.proofs.run_put.put_spaced.Goals as goal

pub returns-in_err-put_text : goal.returns-in_err-put_text
returns-in_err-put_text g c =
    let p = err_from_is_err_and c.from_residual.result c.from_residual.ensures.1 in
    rw (p.1, p.2) (record { ok = tt; going = tt; err = c.in_err-put_text.ensures.err })

pub returns : goal.returns
returns g c =
    let taken = g.S.Sink.taken in
    let failed = g.S.Sink.failed in
    record {
      ok = writes_2 c.put_number.result (taken c.args.sink.now) (taken c.put_text.new.sink)
          (taken c.put_number.new.sink) _ _ _ c.in_ok-put_text.ensures.ok c.put_number.ensures.ok
          (ap (λ (x : List ℕ). 32 ∷ x) (append-nil (decimal c.args.number)));
      going = going_then c.put_number.result (failed c.args.sink.now) (failed c.put_text.new.sink)
          (failed c.put_number.new.sink) c.in_ok-put_text.ensures.going c.put_number.ensures.going;
      err = c.put_number.ensures.err;
    }
