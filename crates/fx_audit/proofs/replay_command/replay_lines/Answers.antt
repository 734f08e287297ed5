use Rattle.fx_audit.proofs.Commands.{lines_refused, lines_replayed}
use Rattle.fx_audit.proofs.replay_command.replay_lines.Goals as goal

pub returns-clause-ok : goal.returns-clause-ok
returns-clause-ok g c =
    lines_replayed c.args.documents.now.plan c.args.documents.now.traffic c.classes-classes.result.now c.args.run.now
    c.net.result.now _ _ c.replay.result c.net.ensures.value c.classes-classes.ensures c.replay.ensures.ok

pub returns-clause-err : goal.returns-clause-err
returns-clause-err g c =
    lines_refused c.args.documents.now.plan c.args.documents.now.traffic c.classes-classes.result.now c.args.run.now
    c.net.result.now _ _ c.replay.result c.net.ensures.value c.classes-classes.ensures c.replay.ensures.err
