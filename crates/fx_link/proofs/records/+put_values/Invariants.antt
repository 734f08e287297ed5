use Rattle.std.proofs.Common.{length}
use Rattle.fx_link.proofs.records.+put_values.Given as goal

abbrev pub decreases-put_values : goal.decreases-put_values
decreases-put_values l = length l.parts.now
