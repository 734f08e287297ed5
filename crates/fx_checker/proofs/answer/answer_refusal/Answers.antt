use Rattle.std.proofs.Common.{arith, rules}
use Rattle.std.proofs.Common.{inl, inr}
use Rattle.std.proofs.lemmas.Result.{err_from_is_err_and}
use Rattle.fx_checker.proofs.answer.answer_refusal.Goals as goal

pub returns-in_err-put_no : goal.returns-in_err-put_no
returns-in_err-put_no g c =
    let p = err_from_is_err_and c.from_residual.result c.from_residual.ensures.1 in
    let failed = c.in_err-put_no.ensures.1.1 in
    rw (p.1, p.2) (record { ok = tt; err = inr failed; quiet = (tt, inl failed) })

pub returns-clause-quiet : goal.returns-clause-quiet
returns-clause-quiet g c = (c.in_ok-put_no.ensures.1.0, tt)

pub returns-clause-ok : goal.returns-clause-ok
returns-clause-ok g c = first_of (grind arith, search rules)
