use Rattle.std.proofs.Common.{refl}
use Rattle.fx_words.specs.Table.{runs}
use Rattle.fx_words.proofs.runs.rows.Goals as goal

pub returns : goal.returns
unfolding runs
returns c = refl
