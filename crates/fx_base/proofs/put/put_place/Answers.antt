use Rattle.std.proofs.Common.{arith, rules}
use Rattle.std.proofs.lemmas.Result.{err_from_is_err_and}
use Rattle.fx_base.proofs.Writing.{writes_nothing, writes_then, going_then}
use Rattle.fx_base.proofs.put.put_place.Goals as goal

pub returns-in-None : goal.returns-in-None
returns-in-None g c = rw c.in-None.is (record
    { ok = writes_nothing (g.S.Sink.taken c.args.sink.now); going = λ going. going; err = tt })

pub returns-in_err-put_text-in-Line : goal.returns-in_err-put_text-in-Line
returns-in_err-put_text-in-Line g c =
    let p = err_from_is_err_and c.from_residual.result c.from_residual.ensures.1 in
    record { ok = rw p.1 tt; going = rw p.1 tt; err = rw (p.1, p.2) c.in_err-put_text-in-Line.ensures.err }

pub returns-in_ok-put_text-in-Line : goal.returns-in_ok-put_text-in-Line
returns-in_ok-put_text-in-Line g c =
    let taken = g.S.Sink.taken in
    let failed = g.S.Sink.failed in
    rw c.in-Line.is (record {
      ok = writes_then c.put_number.result (taken c.args.sink.now) (taken c.put_text.new.sink)
          (taken c.put_number.new.sink) _ _ c.in_ok-put_text-in-Line.ensures.ok c.put_number.ensures.ok;
      going = going_then c.put_number.result (failed c.args.sink.now) (failed c.put_text.new.sink)
          (failed c.put_number.new.sink) c.in_ok-put_text-in-Line.ensures.going c.put_number.ensures.going;
      err = c.put_number.ensures.err;
    })

pub returns-in_err-put_text-in-Octet : goal.returns-in_err-put_text-in-Octet
returns-in_err-put_text-in-Octet g c =
    let p = err_from_is_err_and c.from_residual-in_err-put_text-in-Octet.result
    c.from_residual-in_err-put_text-in-Octet.ensures.1 in
    record { ok = rw p.1 tt; going = rw p.1 tt; err = rw (p.1, p.2) c.in_err-put_text-in-Octet.ensures.err }

pub returns-in_ok-put_text-in-Octet : goal.returns-in_ok-put_text-in-Octet
returns-in_ok-put_text-in-Octet g c =
    let taken = g.S.Sink.taken in
    let failed = g.S.Sink.failed in
    rw c.in-Octet.is (record {
      ok = writes_then c.put_number-in-Octet.result (taken c.args.sink.now) (taken c.put_text-in-Octet.new.sink)
          (taken c.put_number-in-Octet.new.sink) _ _ c.in_ok-put_text-in-Octet.ensures.ok
          c.put_number-in-Octet.ensures.ok;
      going = going_then c.put_number-in-Octet.result (failed c.args.sink.now) (failed c.put_text-in-Octet.new.sink)
          (failed c.put_number-in-Octet.new.sink) c.in_ok-put_text-in-Octet.ensures.going
          c.put_number-in-Octet.ensures.going;
      err = c.put_number-in-Octet.ensures.err;
    })

pub returns-in-Text-clause-ok : goal.returns-in-Text-clause-ok
returns-in-Text-clause-ok g c = first_of (grind arith, search rules)
