use Rattle.fx_runs.proofs.StepsThatCanBeMade.{expires_are_made, arrives_are_made, crosses_are_made}
use Rattle.fx_runs.proofs.laws.steps_are_made.Goals as goal

pub returns-clause-expires : goal.returns-clause-expires
returns-clause-expires c = expires_are_made

pub returns-clause-arrives : goal.returns-clause-arrives
returns-clause-arrives c = arrives_are_made

pub returns-clause-crosses : goal.returns-clause-crosses
returns-clause-crosses c = crosses_are_made
