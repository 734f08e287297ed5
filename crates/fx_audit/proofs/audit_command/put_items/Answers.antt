use Rattle.std.proofs.lemmas.Result.{err_from_is_err_and}
use Rattle.fx_audit.proofs.audit_command.put_items.Goals as goal

pub returns-in_err-put_item : goal.returns-in_err-put_item
returns-in_err-put_item g c =
    let p = err_from_is_err_and c.from_residual.result c.from_residual.ensures.1 in
    rw (p.1, p.2) (tt, (tt, c.in_err-put_item.ensures.err))
