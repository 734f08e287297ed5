use Rattle.std.proofs.lemmas.Result.{err_from_is_err_and}
use Rattle.std.proofs.Common.{[], ◌∷◌, codes, decimal}
use Rattle.fx_run_text.specs.RunLineText.{spaced_words}
use Rattle.fx_base.proofs.Writing.{going_then, writes_3}
use Rattle.fx_run_text.proofs.RunPutting.{cache_put}
use Rattle.fx_run_text.proofs.run_put.put_cache.Goals as goal

pub returns-in_err-put_text : goal.returns-in_err-put_text
returns-in_err-put_text g c =
    let p = err_from_is_err_and c.from_residual.result c.from_residual.ensures.1 in
    rw (p.1, p.2) (record { ok = tt; going = tt; err = c.in_err-put_text.ensures.err })

pub returns-in_err-put_spaced : goal.returns-in_err-put_spaced
returns-in_err-put_spaced g c =
    let p = err_from_is_err_and c.from_residual-in_err-put_spaced.result c.from_residual-in_err-put_spaced.ensures.1 in
    rw (p.1, p.2) (record { ok = tt; going = tt; err = c.in_err-put_spaced.ensures.err })

pub returns : goal.returns
returns g c =
    let taken = g.S.Sink.taken in
    let failed = g.S.Sink.failed in
    record {
      ok = writes_3 c.put_spaced-2.result (taken c.args.sink.now) (taken c.put_text.new.sink)
          (taken c.put_spaced.new.sink) (taken c.put_spaced-2.new.sink) (codes " cache")
          (spaced_words (decimal c.args.device ∷ [])) (spaced_words (decimal c.args.cache ∷ [])) _
          c.in_ok-put_text.ensures.ok c.in_ok-put_spaced.ensures.ok c.put_spaced-2.ensures.ok
          (cache_put c.args.device c.args.cache);
      going = going_then c.put_spaced-2.result (failed c.args.sink.now) (failed c.put_text.new.sink)
          (failed c.put_spaced-2.new.sink) c.in_ok-put_text.ensures.going
          (going_then c.put_spaced-2.result (failed c.put_text.new.sink) (failed c.put_spaced.new.sink)
          (failed c.put_spaced-2.new.sink) c.in_ok-put_spaced.ensures.going c.put_spaced-2.ensures.going);
      err = c.put_spaced-2.ensures.err;
    }
