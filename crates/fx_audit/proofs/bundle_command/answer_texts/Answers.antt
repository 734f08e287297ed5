use Rattle.fx_audit.proofs.Commands.{audit_as_refused, replay_as_done}
use Rattle.fx_audit.proofs.bundle_command.answer_texts.Goals as goal

pub returns-in-Replay-clause-ok : goal.returns-in-Replay-clause-ok
returns-in-Replay-clause-ok g c =
    rw c.in-Replay.is (replay_as_done (g.N.Source.left c.args.network.now) (g.T.Source.left c.args.traffic.now)
    c.args.third.now _ _ c.replay_explained.result c.replay_explained.ensures.ok)

pub returns-in-Replay-clause-err : goal.returns-in-Replay-clause-err
returns-in-Replay-clause-err g c = rw c.in-Replay.is c.replay_explained.ensures.err

pub returns-in-Check-clause-ok : goal.returns-in-Check-clause-ok
returns-in-Check-clause-ok g c = rw c.in-Check.is c.check_explained.ensures.ok

pub returns-in-Check-clause-err : goal.returns-in-Check-clause-err
returns-in-Check-clause-err g c = rw c.in-Check.is c.check_explained.ensures.err

pub returns-in-Confirm-clause-ok : goal.returns-in-Confirm-clause-ok
returns-in-Confirm-clause-ok g c = rw c.in-Confirm.is c.confirm_explained.ensures.ok

pub returns-in-Confirm-clause-err : goal.returns-in-Confirm-clause-err
returns-in-Confirm-clause-err g c = rw c.in-Confirm.is c.confirm_explained.ensures.err

pub returns-in-Audit-clause-ok : goal.returns-in-Audit-clause-ok
returns-in-Audit-clause-ok g c = rw c.in-Audit.is c.audit_explained.ensures.ok

pub returns-in-Audit-clause-err : goal.returns-in-Audit-clause-err
returns-in-Audit-clause-err g c =
    rw c.in-Audit.is (audit_as_refused (g.N.Source.left c.args.network.now) (g.T.Source.left c.args.traffic.now) _ _ _ _
    c.audit_explained.result c.audit_explained.ensures.err)
