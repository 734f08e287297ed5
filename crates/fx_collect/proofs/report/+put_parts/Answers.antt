use Rattle.std.proofs.lemmas.Result.{err_from_is_err_and}
use Rattle.fx_base.specs.Device.{Writes, KeepsGoing}
use Rattle.fx_base.proofs.Writing.{writes_nothing, going_then, writes_3}
use Rattle.fx_collect.specs.Report.{parts_text, space_before}
use Rattle.fx_collect.proofs.PartsWritten.{nothing_without_parts, nothing_without_values, others, parts_first, space_behind, space_between}
use Rattle.fx_collect.proofs.report.+put_parts.Goals.{then-not-is_empty+in_ok-put_text-in-len1-up-values, else-not-is_empty}
use Rattle.fx_collect.proofs.report.+put_parts.Goals as goal

pub returns-in-empty : goal.returns-in-empty
returns-in-empty g t c = rw (← nothing_without_parts c.args.parts.now c.args.values.now c.in-empty.len_below)
    c.put_text.ensures

pub returns-in-empty-values : goal.returns-in-empty-values
returns-in-empty-values g t c = rw (← nothing_without_values c.args.parts.now c.args.values.now
    c.in-empty-values.len_below) c.put_text-in-empty-values.ensures

pub returns-in_err-put_value-in-len1-up-values : goal.returns-in_err-put_value-in-len1-up-values
returns-in_err-put_value-in-len1-up-values g t c =
    let p = err_from_is_err_and c.from_residual.result c.from_residual.ensures.1 in
    rw (p.1, p.2) (record { ok = tt; going = tt; err = c.in_err-put_value-in-len1-up-values.ensures.err })

pub returns-in_err-put_text-in-len1-up-values : goal.returns-in_err-put_text-in-len1-up-values
returns-in_err-put_text-in-len1-up-values g t c =
    let p = err_from_is_err_and c.from_residual-in_err-put_text-in-len1-up-values.result
    c.from_residual-in_err-put_text-in-len1-up-values.ensures.1 in
    rw (p.1, p.2) (record { ok = tt; going = tt; err = c.in_err-put_text-in-len1-up-values.ensures.err })

pub returns-after-not-is_empty : goal.returns-after-not-is_empty
returns-after-not-is_empty g t c =
    let taken = g.S.Sink.taken in
    let failed = g.S.Sink.failed in
    let between : Writes (taken c.put_value.new.sink) (taken c.if-not-is_empty.sink)
    (space_before (others c.args.parts.now))
    × KeepsGoing (failed c.put_value.new.sink) (failed c.if-not-is_empty.sink) =
    elim c.if-not-is_empty.branch [
      | then-not-is_empty+in_ok-put_text-in-len1-up-values w ↦
          rw (
            w.sink-is,
            space_between (others c.args.parts.now) c.is_empty.result c.is_empty.ensures
                w.if-not-is_empty.true,
          ) (
            w.in_ok-put_text-in-len1-up-values.ensures.ok,
            w.in_ok-put_text-in-len1-up-values.ensures.going,
          )
      | else-not-is_empty w ↦ rw (
        w.sink-is,
        space_behind (others c.args.parts.now) c.is_empty.result c.is_empty.ensures
            w.if-not-is_empty.false,
      ) (writes_nothing (taken c.put_value.new.sink), λ going. going)
    ] in
    record {
      ok = writes_3 c.put_parts.result (taken c.args.sink.now) (taken c.put_value.new.sink)
          (taken c.if-not-is_empty.sink) (taken c.put_parts.new.sink) _ (space_before (others c.args.parts.now))
          (parts_text (others c.args.parts.now) (others c.args.values.now)) _
          c.in_ok-put_value-in-len1-up-values.ensures.ok between.0 c.put_parts.ensures.ok
          (parts_first c.args.parts.now c.args.values.now _ _ c.in-len1-up.len_at_least
          c.in-len1-up-values.len_at_least);
      going = going_then c.put_parts.result (failed c.args.sink.now) (failed c.put_value.new.sink)
          (failed c.put_parts.new.sink) c.in_ok-put_value-in-len1-up-values.ensures.going
          (going_then c.put_parts.result (failed c.put_value.new.sink) (failed c.if-not-is_empty.sink)
          (failed c.put_parts.new.sink) between.1 c.put_parts.ensures.going);
      err = c.put_parts.ensures.err;
    }
