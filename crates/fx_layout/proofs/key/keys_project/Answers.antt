use Rattle.fx_layout.proofs.Projections.{project_key, project_again, same_key_decides}
use Rattle.fx_layout.proofs.key.keys_project.Goals as goal

pub returns-clause-packet : goal.returns-clause-packet
returns-clause-packet c = project_key

pub returns-clause-again : goal.returns-clause-again
returns-clause-again c = project_again

pub returns-clause-same : goal.returns-clause-same
returns-clause-same c = same_key_decides
