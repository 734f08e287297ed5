use Rattle.std.proofs.Common.{refl}
use Rattle.std.proofs.lemmas.Result.{err_from_is_err_and}
use Rattle.fx_wire.specs.Writing.{version_octets}
use Rattle.fx_base.proofs.Writing.{going_then, writes_2}
use Rattle.fx_wire.proofs.put.put_version.Goals as goal

pub returns-in_err-put_text : goal.returns-in_err-put_text
returns-in_err-put_text g c =
    let p = err_from_is_err_and c.from_residual.result c.from_residual.ensures.1 in
    rw (p.1, p.2) (record { ok = tt; going = tt; err = c.in_err-put_text.ensures.err })

pub returns : goal.returns
unfolding version_octets
returns g c =
    let taken = g.S.Sink.taken in
    let failed = g.S.Sink.failed in
    record {
      ok = writes_2 c.put_text-2.result (taken c.args.sink.now) (taken c.put_text.new.sink)
          (taken c.put_text-2.new.sink) _ _ _ c.in_ok-put_text.ensures.ok c.put_text-2.ensures.ok
          (rw (c.to_be_bytes.ensures, c.to_be_bytes-2.ensures) refl);
      going = going_then c.put_text-2.result (failed c.args.sink.now) (failed c.put_text.new.sink)
          (failed c.put_text-2.new.sink) c.in_ok-put_text.ensures.going c.put_text-2.ensures.going;
      err = c.put_text-2.ensures.err;
    }
