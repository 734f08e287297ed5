use Rattle.fx_cli.proofs.CallOutputs.{ran_over}
use Rattle.fx_cli.proofs.CallRefusals.{run_refused_with_links}
use Rattle.fx_cli.proofs.commands.run_onto_files.Goals as goal

pub returns-clause-answers : goal.returns-clause-answers
returns-clause-answers g c = (
  ran_over c.run_on_links-answer.result.0 _ _ _ _ _ _ _ _ _ _ c.requires
      c.run_on_links-answer.ensures.ok,
  c.run_on_links-answer.ensures.quiet,
)

pub returns-clause-refused : goal.returns-clause-refused
returns-clause-refused g c = run_refused_with_links _ _ _ _ _ _ _ _ _ _ c.run_on_links-answer.result.0 c.requires
    c.run_on_links-answer.ensures.err
