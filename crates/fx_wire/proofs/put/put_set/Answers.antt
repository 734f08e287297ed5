use Rattle.std.proofs.Common.{refl}
use Rattle.std.proofs.lemmas.Result.{err_from_is_err_and}
use Rattle.fx_wire.specs.Writing.{set_octets}
use Rattle.fx_base.proofs.Writing.{going_then, writes_3}
use Rattle.fx_wire.proofs.put.put_set.Goals as goal

pub returns-in_err-put_text : goal.returns-in_err-put_text
returns-in_err-put_text g c =
    let p = err_from_is_err_and c.from_residual.result c.from_residual.ensures.1 in
    rw (p.1, p.2) (record { ok = tt; going = tt; err = c.in_err-put_text.ensures.err })

pub returns-in_err-put_text-2 : goal.returns-in_err-put_text-2
returns-in_err-put_text-2 g c =
    let p = err_from_is_err_and c.from_residual-in_err-put_text-2.result c.from_residual-in_err-put_text-2.ensures.1 in
    rw (p.1, p.2) (record { ok = tt; going = tt; err = c.in_err-put_text-2.ensures.err })

pub returns : goal.returns
unfolding set_octets
returns g c =
    let taken = g.S.Sink.taken in
    let failed = g.S.Sink.failed in
    record {
      ok = writes_3 c.put_text-3.result (taken c.args.sink.now) (taken c.put_text.new.sink)
          (taken c.put_text-2.new.sink) (taken c.put_text-3.new.sink) _ _ _ _ c.in_ok-put_text.ensures.ok
          c.in_ok-put_text-2.ensures.ok c.put_text-3.ensures.ok
          (rw (c.to_be_bytes.ensures, c.to_be_bytes-2.ensures) refl);
      going = going_then c.put_text-3.result (failed c.args.sink.now) (failed c.put_text.new.sink)
          (failed c.put_text-3.new.sink) c.in_ok-put_text.ensures.going
          (going_then c.put_text-3.result (failed c.put_text.new.sink) (failed c.put_text-2.new.sink)
          (failed c.put_text-3.new.sink) c.in_ok-put_text-2.ensures.going c.put_text-3.ensures.going);
      err = c.put_text-3.ensures.err;
    }
