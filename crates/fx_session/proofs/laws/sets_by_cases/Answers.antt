use Rattle.fx_session.proofs.ByCases.{flows, options, templates, messages}
use Rattle.fx_session.proofs.laws.sets_by_cases.Goals as goal

pub returns-clause-flows : goal.returns-clause-flows
returns-clause-flows c = flows

pub returns-clause-options : goal.returns-clause-options
returns-clause-options c = options

pub returns-clause-templates : goal.returns-clause-templates
returns-clause-templates c = templates

pub returns-clause-messages : goal.returns-clause-messages
returns-clause-messages c = messages
