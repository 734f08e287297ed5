use Rattle.std.proofs.Common.{ℕ, List, [], ◌∷◌, codes, decimal, refl, subst}
use Rattle.std.proofs.lemmas.Result.{err_from_is_err_and}
use Rattle.fx_base.specs.Device.{Writes}
use Rattle.fx_base.proofs.Writing.{going_then, writes_5, writes_then}
use Rattle.fx_collect.specs.Report.{fields_text}
use Rattle.fx_collect.proofs.report.put_line.Goals as goal

pub returns-in_err-put_fields : goal.returns-in_err-put_fields
returns-in_err-put_fields g c =
    let p = err_from_is_err_and c.from_residual.result c.from_residual.ensures.1 in
    rw (p.1, p.2) (record { ok = tt; going = tt; err = c.in_err-put_fields.ensures.err })

pub returns-in_err-put_text : goal.returns-in_err-put_text
returns-in_err-put_text g c =
    let p = err_from_is_err_and c.from_residual-in_err-put_text.result c.from_residual-in_err-put_text.ensures.1 in
    rw (p.1, p.2) (record { ok = tt; going = tt; err = c.in_err-put_text.ensures.err })

pub returns-in_err-put_number : goal.returns-in_err-put_number
returns-in_err-put_number g c =
    let p = err_from_is_err_and c.from_residual-in_err-put_number.result c.from_residual-in_err-put_number.ensures.1 in
    rw (p.1, p.2) (record { ok = tt; going = tt; err = c.in_err-put_number.ensures.err })

pub returns-in_err-put_text-2 : goal.returns-in_err-put_text-2
returns-in_err-put_text-2 g c =
    let p = err_from_is_err_and c.from_residual-in_err-put_text-2.result c.from_residual-in_err-put_text-2.ensures.1 in
    rw (p.1, p.2) (record { ok = tt; going = tt; err = c.in_err-put_text-2.ensures.err })

pub returns-in_err-put_number-2 : goal.returns-in_err-put_number-2
returns-in_err-put_number-2 g c =
    let p = err_from_is_err_and c.from_residual-in_err-put_number-2.result c.from_residual-in_err-put_number-2.ensures.1
    in
    rw (p.1, p.2) (record { ok = tt; going = tt; err = c.in_err-put_number-2.ensures.err })

pub returns : goal.returns
returns g c =
    let taken = g.S.Sink.taken in
    let failed = g.S.Sink.failed in
    let fields : Writes (taken c.args.sink.now) (taken c.put_fields.new.sink)
    (fields_text c.args.layout.now c.args.values.now) =
    subst (λ (vs : List ℕ). Writes (taken c.args.sink.now) (taken c.put_fields.new.sink)
    (fields_text c.args.layout.now vs)) c.as_slice.ensures c.in_ok-put_fields.ensures.ok in
    record {
      ok = writes_then c.put_text-3.result (taken c.args.sink.now) (taken c.put_fields.new.sink)
          (taken c.put_text-3.new.sink) (fields_text c.args.layout.now c.args.values.now) _ fields
          (writes_5 c.put_text-3.result (taken c.put_fields.new.sink) (taken c.put_text.new.sink)
          (taken c.put_number.new.sink) (taken c.put_text-2.new.sink) (taken c.put_number-2.new.sink)
          (taken c.put_text-3.new.sink) (codes " packets ") (decimal c.args.counts.now.packets) (codes " octets ")
          (decimal c.args.counts.now.octets) (10 ∷ []) _ c.in_ok-put_text.ensures.ok c.in_ok-put_number.ensures.ok
          c.in_ok-put_text-2.ensures.ok c.in_ok-put_number-2.ensures.ok c.put_text-3.ensures.ok refl);
      going = going_then c.put_text-3.result (failed c.args.sink.now) (failed c.put_fields.new.sink)
          (failed c.put_text-3.new.sink) c.in_ok-put_fields.ensures.going
          (going_then c.put_text-3.result (failed c.put_fields.new.sink) (failed c.put_text.new.sink)
          (failed c.put_text-3.new.sink) c.in_ok-put_text.ensures.going
          (going_then c.put_text-3.result (failed c.put_text.new.sink) (failed c.put_number.new.sink)
          (failed c.put_text-3.new.sink) c.in_ok-put_number.ensures.going
          (going_then c.put_text-3.result (failed c.put_number.new.sink) (failed c.put_text-2.new.sink)
          (failed c.put_text-3.new.sink) c.in_ok-put_text-2.ensures.going
          (going_then c.put_text-3.result (failed c.put_text-2.new.sink) (failed c.put_number-2.new.sink)
          (failed c.put_text-3.new.sink) c.in_ok-put_number-2.ensures.going c.put_text-3.ensures.going))));
      err = c.put_text-3.ensures.err;
    }
