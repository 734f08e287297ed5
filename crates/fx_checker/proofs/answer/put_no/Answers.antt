use Rattle.std.proofs.Common.{◌∷◌, [], codes, refl}
use Rattle.std.proofs.lemmas.Result.{err_from_is_err_and}
use Rattle.fx_base.specs.Fault.{fault_text}
use Rattle.fx_base.proofs.Writing.{going_then, writes_3}
use Rattle.fx_checker.proofs.answer.put_no.Goals as goal

pub returns-in_err-put_text : goal.returns-in_err-put_text
returns-in_err-put_text g c =
    let p = err_from_is_err_and c.from_residual.result c.from_residual.ensures.1 in
    rw (p.1, p.2) (tt, (tt, c.in_err-put_text.ensures.err))

pub returns-in_err-put_fault : goal.returns-in_err-put_fault
returns-in_err-put_fault g c =
    let p = err_from_is_err_and c.from_residual-in_err-put_fault.result c.from_residual-in_err-put_fault.ensures.1 in
    rw (p.1, p.2) (tt, (tt, c.in_err-put_fault.ensures.err))

pub returns : goal.returns
returns g c =
    let taken = g.S.Sink.taken in
    let failed = g.S.Sink.failed in (
      writes_3 c.put_text-2.result (taken c.args.sink.now) (taken c.put_text.new.sink) (taken c.put_fault.new.sink)
          (taken c.put_text-2.new.sink) (codes "no ") (fault_text c.args.fault.now) (10 ∷ []) _
          c.in_ok-put_text.ensures.ok c.in_ok-put_fault.ensures.ok c.put_text-2.ensures.ok refl,
      (
        going_then c.put_text-2.result (failed c.args.sink.now) (failed c.put_text.new.sink)
            (failed c.put_text-2.new.sink) c.in_ok-put_text.ensures.going
            (going_then c.put_text-2.result (failed c.put_text.new.sink) (failed c.put_fault.new.sink)
            (failed c.put_text-2.new.sink) c.in_ok-put_fault.ensures.going c.put_text-2.ensures.going),
        c.put_text-2.ensures.err,
      ),
    )
