use Rattle.std.proofs.Common.{arith, rules}
use Rattle.fx_session.proofs.stream_state.gaps_after.Goals as goal

pub returns-then-next-sequence : goal.returns-then-next-sequence
returns-then-next-sequence g c = first_of (grind arith, search rules)
