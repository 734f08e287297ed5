use Rattle.fx_audit.specs.Confirms.{IsRefusedRefutation}
use Rattle.fx_audit.proofs.Confirms.{passed_as_it_is, refutation_answered, refuted_answered}
use Rattle.fx_checker.proofs.Refusals.{refused_otherwise}
use Rattle.fx_audit.proofs.confirm_command.confirm_lines.Goals as goal

pub returns-in-Ok-clause-answers : goal.returns-in-Ok-clause-answers
returns-in-Ok-clause-answers g c = (
  refuted_answered c.args.documents.now.plan c.args.documents.now.traffic c.args.refutation.now c.in-Ok.ran
      c.in-Ok.plain _ _ c.answer_refuted.result c.in-Ok.ensures.ok c.answer_refuted.ensures.ok,
  c.answer_refuted.ensures.quiet,
)

pub returns-in-Err-clause-answers : goal.returns-in-Err-clause-answers
returns-in-Err-clause-answers g c = (
  refutation_answered c.args.documents.now.plan c.args.documents.now.traffic c.args.refutation.now
      c.totals_of_refutation.new.refutation c.in-Err.fault _ _ c.answer_refusal.result c.in-Err.ensures.err
      (rw (c.without_place_of_form.ensures) at c.answer_refusal.ensures.ok),
  c.answer_refusal.ensures.quiet,
)

pub returns-in-Err-clause-err : goal.returns-in-Err-clause-err
returns-in-Err-clause-err g c =
    refused_otherwise (IsRefusedRefutation c.args.documents.now.plan c.args.documents.now.traffic c.args.refutation.now)
    501 505 c.args.refutation.now c.totals_of_refutation.new.refutation c.in-Err.fault _ c.answer_refusal.result
    c.in-Err.ensures.err (passed_as_it_is c.in-Err.fault _ c.answer_refusal.result
    (rw (c.without_place_of_form.ensures) at c.answer_refusal.ensures.err))
