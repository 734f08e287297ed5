use Rattle.std.proofs.Common.{refl}
use Rattle.fx_words.specs.Table.{traffic}
use Rattle.fx_words.proofs.traffic.rows.Goals as goal

pub returns : goal.returns
unfolding traffic
returns c = refl
