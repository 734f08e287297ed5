use Rattle.std.proofs.lemmas.Result.{err_from_is_err_and}
use Rattle.std.proofs.Common.{[], ◌∷◌, codes, decimal, map}
use Rattle.fx_run_text.specs.RunLineText.{spaced_words}
use Rattle.fx_run_text.specs.RunText.{choice_word, holder_words}
use Rattle.fx_base.proofs.Writing.{going_then, writes_4}
use Rattle.fx_run_text.proofs.RunPutting.{expire_put}
use Rattle.fx_run_text.proofs.run_put.put_expire.Goals as goal

pub returns-in_err-put_text : goal.returns-in_err-put_text
returns-in_err-put_text g c =
    let p = err_from_is_err_and c.from_residual.result c.from_residual.ensures.1 in
    rw (p.1, p.2) (record { ok = tt; going = tt; err = c.in_err-put_text.ensures.err })

pub returns-in_err-put_holder : goal.returns-in_err-put_holder
returns-in_err-put_holder g c =
    let p = err_from_is_err_and c.from_residual-in_err-put_holder.result c.from_residual-in_err-put_holder.ensures.1 in
    rw (p.1, p.2) (record { ok = tt; going = tt; err = c.in_err-put_holder.ensures.err })

pub returns-in_err-put_spaced : goal.returns-in_err-put_spaced
returns-in_err-put_spaced g c =
    let p = err_from_is_err_and c.from_residual-in_err-put_spaced.result c.from_residual-in_err-put_spaced.ensures.1 in
    rw (p.1, p.2) (record { ok = tt; going = tt; err = c.in_err-put_spaced.ensures.err })

pub returns : goal.returns
returns g c =
    let taken = g.S.Sink.taken in
    let failed = g.S.Sink.failed in
    record {
      ok = writes_4 c.put_choices.result (taken c.args.sink.now) (taken c.put_text.new.sink)
          (taken c.put_holder.new.sink) (taken c.put_spaced.new.sink) (taken c.put_choices.new.sink) (codes "expire")
          (spaced_words (holder_words c.args.holder)) (spaced_words (decimal c.args.position ∷ []))
          (spaced_words (map choice_word c.args.choices.now)) _ c.in_ok-put_text.ensures.ok
          c.in_ok-put_holder.ensures.ok c.in_ok-put_spaced.ensures.ok c.put_choices.ensures.ok
          (expire_put c.args.holder c.args.position c.args.choices.now);
      going = going_then c.put_choices.result (failed c.args.sink.now) (failed c.put_text.new.sink)
          (failed c.put_choices.new.sink) c.in_ok-put_text.ensures.going
          (going_then c.put_choices.result (failed c.put_text.new.sink) (failed c.put_holder.new.sink)
          (failed c.put_choices.new.sink) c.in_ok-put_holder.ensures.going
          (going_then c.put_choices.result (failed c.put_holder.new.sink) (failed c.put_spaced.new.sink)
          (failed c.put_choices.new.sink) c.in_ok-put_spaced.ensures.going c.put_choices.ensures.going));
      err = c.put_choices.ensures.err;
    }
