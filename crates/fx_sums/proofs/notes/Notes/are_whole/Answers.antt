use Rattle.std.proofs.Common.{arith, rules}
use Rattle.fx_sums.proofs.notes.Notes.are_whole.Goals as goal

pub returns-else-is_none : goal.returns-else-is_none
returns-else-is_none c = first_of (grind arith, search rules)
