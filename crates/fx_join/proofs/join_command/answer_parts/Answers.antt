use Rattle.fx_checker.specs.Documents.{CannotRead}
use Rattle.fx_plan.specs.Tables.{net_of}
use Rattle.fx_join.proofs.JoinAnswers.{no_done, no_failed, no_text}
use Rattle.fx_join.proofs.join_command.answer_parts.Goals as goal

pub returns-in-Err-clause-ok : goal.returns-in-Err-clause-ok
returns-in-Err-clause-ok g c =
    no_done (g.P.Source.left c.args.parts.now) (net_of c.args.whole.now.network) c.args.whole.now.traffic
    (λ e. CannotRead g.P.Source.left g.P.Source.calls g.P.Source.failed c.args.parts.now c.join_parts.new.parts e)
    c.in-Err.fault _ _ c.answer_refusal.result (λ r. r.0) c.in-Err.ensures.err c.answer_refusal.ensures.ok

pub returns-in-Err-clause-err : goal.returns-in-Err-clause-err
returns-in-Err-clause-err g c =
    no_failed (g.P.Source.left c.args.parts.now) (net_of c.args.whole.now.network) c.args.whole.now.traffic
    (λ e. CannotRead g.P.Source.left g.P.Source.calls g.P.Source.failed c.args.parts.now c.join_parts.new.parts e) _
    c.in-Err.fault c.answer_refusal.result c.in-Err.ensures.err c.answer_refusal.ensures.err

pub returns-in-Err-clause-answers : goal.returns-in-Err-clause-answers
returns-in-Err-clause-answers g c = (
  no_text c.in-Err.fault _ _ c.answer_refusal.result c.answer_refusal.ensures.ok,
  c.answer_refusal.ensures.quiet,
)
