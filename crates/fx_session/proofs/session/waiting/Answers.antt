use Rattle.fx_session.proofs.InFront.{after_piece-behind}
use Rattle.fx_session.proofs.session.waiting.Goals as goal

pub returns : goal.returns
returns c = after_piece-behind
