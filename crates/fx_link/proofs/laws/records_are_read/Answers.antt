use Rattle.fx_link.proofs.BatchTrip.{batch_back}
use Rattle.fx_link.proofs.StreamTrip.{records_back}
use Rattle.fx_link.proofs.FlushedMessages.{flushes_are_sent}
use Rattle.fx_link.proofs.laws.records_are_read.Goals as goal

pub returns-clause-batch : goal.returns-clause-batch
returns-clause-batch c = batch_back

pub returns-clause-all : goal.returns-clause-all
returns-clause-all c = records_back

pub returns-clause-flushed : goal.returns-clause-flushed
returns-clause-flushed c = flushes_are_sent
