use Rattle.fx_wire.proofs.RoundTrip.{message_back}
use Rattle.fx_wire.proofs.put.messages_are_read.Goals as goal

pub returns : goal.returns
returns c = message_back
