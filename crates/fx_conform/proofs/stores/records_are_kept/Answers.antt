use Rattle.fx_conform.proofs.JoinedRecords.{joins_are_made}
use Rattle.fx_conform.proofs.RemovedRecords.{leavings_are_made}
use Rattle.fx_conform.proofs.stores.records_are_kept.Goals as goal

pub returns-clause-joins : goal.returns-clause-joins
returns-clause-joins c = joins_are_made

pub returns-clause-leaves : goal.returns-clause-leaves
returns-clause-leaves c = leavings_are_made
