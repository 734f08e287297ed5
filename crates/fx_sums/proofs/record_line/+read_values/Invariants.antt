use Rattle.std.proofs.Common.{length}
use Rattle.fx_sums.proofs.record_line.+read_values.Given as goal

abbrev pub decreases-read_values : goal.decreases-read_values
decreases-read_values l = length l.parts.now
