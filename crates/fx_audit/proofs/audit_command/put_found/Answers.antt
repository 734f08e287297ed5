use Rattle.std.proofs.Common.{inl}
use Rattle.std.proofs.lemmas.Result.{err_from_is_err_and}
use Rattle.fx_audit.proofs.audit_command.put_found.Goals as goal

pub returns-in_err-put_items-in-Certificate : goal.returns-in_err-put_items-in-Certificate
returns-in_err-put_items-in-Certificate g c =
    let p = err_from_is_err_and c.from_residual.result c.from_residual.ensures.1 in
    let failed = c.in_err-put_items-in-Certificate.ensures.1.1 in
    rw (p.1, p.2) (record { answers = (tt, (tt, inl failed)); err = failed })

pub returns-in_err-put_refutation-in-Refutation : goal.returns-in_err-put_refutation-in-Refutation
returns-in_err-put_refutation-in-Refutation g c =
    let p = err_from_is_err_and c.from_residual-in_err-put_refutation-in-Refutation.result
    c.from_residual-in_err-put_refutation-in-Refutation.ensures.1 in
    let failed = c.in_err-put_refutation-in-Refutation.ensures.err in
    rw (p.1, p.2) (record { answers = (tt, (tt, inl failed)); err = failed })
