use Rattle.std.proofs.Common.{inr}
use Rattle.fx_audit.proofs.Commands.{bundle_done, bundle_refused, no_bundle}
use Rattle.fx_audit.proofs.Texts.{bundle_text}
use Rattle.fx_audit.proofs.bundle_command.bundle_explained.Goals as goal
use Rattle.fx_checker.proofs.Texts.{reported_as}

pub returns-in_default-clause-err : goal.returns-in_default-clause-err
returns-in_default-clause-err g c =
    inr (inr (inr (no_bundle (g.B.Source.left c.args.bundle.now) c.in_ok-octets.octets.items c.as_slice.result.now
    c.bare-fault.result c.in_ok-octets.ensures.all c.as_slice.ensures.value c.bare-fault.ensures
    c.in_default.ensures.none)))

pub returns-clause-ok : goal.returns-clause-ok
returns-clause-ok g c =
    bundle_done (g.B.Source.left c.args.bundle.now) c.in_ok-octets.octets.items c.as_slice.result.now
    c.in-Some.bundle.command _ _ _ _ _ c.answer_bundle.result c.in_ok-octets.ensures.all c.as_slice.ensures.value
    c.in-Some.ensures.some c.answer_bundle.ensures.answers.0

pub returns-clause-err : goal.returns-clause-err
returns-clause-err g c =
    bundle_refused (g.B.Source.left c.args.bundle.now) c.in_ok-octets.octets.items c.as_slice.result.now
    c.in-Some.bundle.command _ _ _ _ _ c.answer_bundle.result c.in_ok-octets.ensures.all c.as_slice.ensures.value
    c.in-Some.ensures.some c.answer_bundle.ensures.err

pub returns-clause-answers : goal.returns-clause-answers
returns-clause-answers g c = (
  reported_as _ _ _ _ c.answer_bundle.result (bundle_text c.in-Some.bundle.command _ _ _)
      c.answer_bundle.ensures.answers.0,
  c.answer_bundle.ensures.answers.1,
)
