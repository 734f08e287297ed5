use Rattle.std.proofs.Common.{length}
use Rattle.fx_link.proofs.records.+put_records.Given as goal

abbrev pub decreases-put_records : goal.decreases-put_records
decreases-put_records l = length l.records.now
