use Rattle.std.proofs.Common.{length}
use Rattle.fx_store.proofs.ordered.+compare_parts.Given as goal

abbrev pub decreases-compare_parts : goal.decreases-compare_parts
decreases-compare_parts l = length l.a.now
