use Rattle.fx_check.proofs.JoinedCertificates.{joined_once, joined_modulo}
use Rattle.fx_check.proofs.laws.certificates_join.Goals as goal

pub returns-clause-once : goal.returns-clause-once
returns-clause-once c = joined_once

pub returns-clause-modulo : goal.returns-clause-modulo
returns-clause-modulo c = joined_modulo
