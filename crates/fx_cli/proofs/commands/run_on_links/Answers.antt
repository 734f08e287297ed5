use Rattle.fx_cli.proofs.CallRefusals.{run_on_links_refused}
use Rattle.fx_cli.proofs.commands.run_on_links.Goals as goal

pub returns-clause-err : goal.returns-clause-err
returns-clause-err g c = run_on_links_refused _ _ _ _ _ _ _ _ _ _ _ _ _ c.run_explained-answer.result
    c.run_explained-answer.ensures.err
