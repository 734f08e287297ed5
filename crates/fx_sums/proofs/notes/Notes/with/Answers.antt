use Rattle.std.proofs.Common.{arith, rules}
use Rattle.fx_sums.proofs.notes.Notes.with.Goals as goal

pub returns-else-is_some-7 : goal.returns-else-is_some-7
returns-else-is_some-7 c = first_of (grind arith, search rules)
