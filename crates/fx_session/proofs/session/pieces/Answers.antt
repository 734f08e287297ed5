use Rattle.fx_session.proofs.StreamSteps.{pieces}
use Rattle.fx_session.proofs.session.pieces.Goals as goal

pub returns : goal.returns
returns c = pieces
