use Rattle.std.proofs.Common.{length}
use Rattle.fx_link.proofs.templates.+field_count.Given as goal

abbrev pub decreases-field_count : goal.decreases-field_count
decreases-field_count l = length l.parts.now
