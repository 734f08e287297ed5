use Rattle.std.proofs.Common.{refl}
use Rattle.fx_words.specs.Table.{networks}
use Rattle.fx_words.proofs.networks.rows.Goals as goal

pub returns : goal.returns
unfolding networks
returns c = refl
