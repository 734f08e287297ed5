use Rattle.fx_audit.proofs.ListedAnswers.{no_answer_listed, no_listed, nothing_refuted_listed}
use Rattle.fx_audit.proofs.ListedDocuments.{documents_refusal_listed, network_refusal_listed}
use Rattle.fx_audit.proofs.ListedBundles.{bundle_refusal_listed, check_refusal_listed}
use Rattle.fx_audit.proofs.ListedCaptures.{metering_refusal_listed}
use Rattle.fx_audit.proofs.ListedRefutations.{confirm_refusal_listed, refutation_refusal_listed}
use Rattle.fx_audit.proofs.ListedRuns.{replay_refusal_listed}
use Rattle.fx_audit.proofs.ListedStreams.{collect_refusal_listed}
use Rattle.fx_audit.proofs.ListedSums.{sum_refusal_listed}
use Rattle.fx_audit.proofs.laws.refusals_are_listed.Goals as goal

pub returns-clause-network : goal.returns-clause-network
returns-clause-network c octets e refused = network_refusal_listed octets e refused

pub returns-clause-documents : goal.returns-clause-documents
returns-clause-documents c network traffic e refused = documents_refusal_listed network traffic e refused

pub returns-clause-certificate : goal.returns-clause-certificate
returns-clause-certificate c number means = no_listed number means

pub returns-clause-refutation : goal.returns-clause-refutation
returns-clause-refutation c number refutes = nothing_refuted_listed number refutes

pub returns-clause-unanswered : goal.returns-clause-unanswered
returns-clause-unanswered c e is = no_answer_listed e is

pub returns-clause-check : goal.returns-clause-check
returns-clause-check c network traffic lines e refused = check_refusal_listed network traffic lines e refused

pub returns-clause-replay : goal.returns-clause-replay
returns-clause-replay c network traffic lines e refused = replay_refusal_listed network traffic lines e refused

pub returns-clause-refuted : goal.returns-clause-refuted
returns-clause-refuted c network classes lines e refused = refutation_refusal_listed network classes lines e refused

pub returns-clause-confirm : goal.returns-clause-confirm
returns-clause-confirm c network traffic lines e refused = confirm_refusal_listed network traffic lines e refused

pub returns-clause-collect : goal.returns-clause-collect
returns-clause-collect c network stream e refused = collect_refusal_listed network stream e refused

pub returns-clause-metering : goal.returns-clause-metering
returns-clause-metering c network traffic left asked from last before e going refused =
    metering_refusal_listed network traffic left asked (Unit {0}) (λ _. Unit {0}) from last before e going refused

pub returns-clause-sum : goal.returns-clause-sum
returns-clause-sum c network lines e refused = sum_refusal_listed network lines e refused

pub returns-clause-bundle : goal.returns-clause-bundle
returns-clause-bundle c octets e refused = bundle_refusal_listed octets e refused
