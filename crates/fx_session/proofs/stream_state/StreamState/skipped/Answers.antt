use Rattle.std.proofs.Common.{arith, rules}
use Rattle.fx_session.proofs.stream_state.StreamState.skipped.Goals as goal

pub returns : goal.returns
returns c = first_of (grind arith, search rules)
