use Rattle.std.proofs.Common.{Some, refl, ap, ◌∙◌}
use Rattle.fx_audit.proofs.Commands.{text_lines_in, there_done, there_refused}
use Rattle.fx_audit.proofs.bundle_command.answer_bundle.Goals as goal

pub returns-clause-answers : goal.returns-clause-answers
returns-clause-answers g c =
    let lines = c.in_ok-third.ensures.ok ∙ text_lines_in c.new.result.rest.now c.args.bundle.now.third.now
    c.new.result.calls c.new.ensures.octets c.new.ensures.calls in (
      there_done c.args.bundle.now.command _ _ c.args.bundle.now.network.now c.args.bundle.now.traffic.now _ _ _ _
          c.answer_texts-answer.result (ap Some c.new-network.ensures.octets) (ap Some c.new-traffic.ensures.octets)
          lines
          c.answer_texts-answer.ensures.ok,
      c.answer_texts-answer.ensures.quiet,
    )

pub returns-clause-err : goal.returns-clause-err
returns-clause-err g c =
    let lines = c.in_ok-third.ensures.ok ∙ text_lines_in c.new.result.rest.now c.args.bundle.now.third.now
    c.new.result.calls c.new.ensures.octets c.new.ensures.calls in
    there_refused c.args.bundle.now.command _ _ c.args.bundle.now.network.now c.args.bundle.now.traffic.now
    c.args.bundle.now.third.now _ _ _ _ _ _ _ c.answer_texts-answer.new.third _ c.answer_texts-answer.result
    (ap Some c.new-network.ensures.octets) (ap Some c.new-traffic.ensures.octets) refl refl c.never_fails.ensures
    lines c.answer_texts-answer.ensures.err
