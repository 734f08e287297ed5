use Rattle.std.proofs.Common.{refl}
use Rattle.fx_words.specs.Table.{captures}
use Rattle.fx_words.proofs.captures.rows.Goals as goal

pub returns : goal.returns
unfolding captures
returns c = refl
