use Rattle.std.proofs.Common.{arith}
use Rattle.fx_steps.proofs.WaitingCounts.{set_raised, count_of_total}
use Rattle.fx_steps.proofs.waiting.raise.Goals as goal

pub returns : goal.returns
returns c = set_raised c.args.counts.now c.args.index c.requires.there

pub overflow_add-counts : goal.overflow_add-counts
overflow_add-counts c = let h = count_of_total c.args.counts.now c.args.index in omega (arith, h, c.requires.room)
