use Rattle.fx_check.proofs.AcceptedCertificates.{certified_once, certified_modulo}
use Rattle.fx_check.proofs.laws.certificates_count_once.Goals as goal

pub returns-clause-once : goal.returns-clause-once
returns-clause-once c = certified_once

pub returns-clause-modulo : goal.returns-clause-modulo
returns-clause-modulo c = certified_modulo
