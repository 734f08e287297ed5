use Rattle.std.proofs.Common.{refl}
use Rattle.fx_words.specs.Table.{refutations}
use Rattle.fx_words.proofs.refutations.rows.Goals as goal

pub returns : goal.returns
unfolding refutations
returns c = refl
