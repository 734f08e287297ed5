use Rattle.fx_check.proofs.AcceptedCertificates.{certificate_only, certificate_all}
use Rattle.fx_check.proofs.laws.certificates_are_accepted.Goals as goal

pub returns-clause-only : goal.returns-clause-only
returns-clause-only c = certificate_only

pub returns-clause-all : goal.returns-clause-all
returns-clause-all c = certificate_all
