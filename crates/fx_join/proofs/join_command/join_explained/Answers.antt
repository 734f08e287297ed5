use Rattle.fx_checker.proofs.Documents.{exit_with}
use Rattle.fx_join.proofs.JoinAnswers.{whole_done, whole_failed, whole_refused}
use Rattle.fx_join.proofs.Wholes.{documents_faultless, network_faultless}
use Rattle.fx_join.proofs.join_command.join_explained.Goals as goal

pub returns-clause-ok : goal.returns-clause-ok
returns-clause-ok g c =
    whole_done (g.N.Source.left c.args.network.now) (g.T.Source.left c.args.traffic.now)
    (g.P.Source.left c.args.parts.now) c.in_ok-whole.whole.network c.in_ok-whole.whole.traffic _ _
    c.answer_parts.result c.in_ok-whole.ensures.network c.in_ok-whole.ensures.traffic c.answer_parts.ensures.ok

pub returns-clause-err : goal.returns-clause-err
returns-clause-err g c =
    whole_failed (g.N.Source.left c.args.network.now) (g.T.Source.left c.args.traffic.now)
    (g.P.Source.left c.args.parts.now) c.in_ok-whole.whole.network c.in_ok-whole.whole.traffic _ _ _ _
    c.answer_parts.result c.in_ok-whole.ensures.network c.in_ok-whole.ensures.traffic c.answer_parts.ensures.err

pub returns-in_err-whole-clause-err : goal.returns-in_err-whole-clause-err
returns-in_err-whole-clause-err g c =
    exit_with _ _ _ c.from_residual.ensures
    (whole_refused (g.N.Source.left c.args.network.now) (g.T.Source.left c.args.traffic.now)
    (g.P.Source.left c.args.parts.now) _ _ _ _ _ _ c.in_err-whole.ensures.err)

pub returns-clause-order : goal.returns-clause-order
returns-clause-order g c =
    network_faultless (g.N.Source.left c.args.network.now) c.in_ok-whole.whole.network _ c.in_ok-whole.ensures.network

pub returns-clause-untouched : goal.returns-clause-untouched
returns-clause-untouched g c =
    documents_faultless (g.N.Source.left c.args.network.now) (g.T.Source.left c.args.traffic.now)
    c.in_ok-whole.whole.network c.in_ok-whole.whole.traffic _ c.in_ok-whole.ensures.network
    c.in_ok-whole.ensures.traffic
