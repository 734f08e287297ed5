use Rattle.fx_audit.proofs.Audits.{found_answered, none_answered}
use Rattle.fx_audit.proofs.audit_command.audit.Goals as goal

pub returns-in-Ok-clause-answers : goal.returns-in-Ok-clause-answers
returns-in-Ok-clause-answers g c = (
  found_answered c.args.documents.now.plan c.args.documents.now.traffic c.args.limit c.in-Ok.found _ _
      c.put_found.result c.in-Ok.ensures.right c.in-Ok.ensures.settles c.put_found.ensures.answers.0,
  c.put_found.ensures.answers.1,
)

pub returns-in-Err-clause-answers : goal.returns-in-Err-clause-answers
returns-in-Err-clause-answers g c = (
  none_answered c.args.documents.now.plan c.args.documents.now.traffic c.args.limit c.in-Err.fault _ _
      c.answer_none.result c.in-Err.ensures.err c.answer_none.ensures.ok,
  c.answer_none.ensures.quiet,
)
