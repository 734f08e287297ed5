use Rattle.std.proofs.Common.{arith, rules}
use Rattle.fx_session.proofs.taken_records.make_place.Goals as goal

pub returns-else-end-len-clause-room : goal.returns-else-end-len-clause-room
returns-else-end-len-clause-room c = first_of (grind arith, search rules)
