use Rattle.std.proofs.Common.{arith, rules}
use Rattle.fx_session.proofs.field_numbers.note_first.Goals as goal

pub returns-then-is_none : goal.returns-then-is_none
returns-then-is_none c = first_of (grind arith, search rules)
