use Rattle.std.proofs.Common.{refl}
use Rattle.fx_words.specs.Table.{devices}
use Rattle.fx_words.proofs.devices.rows.Goals as goal

pub returns : goal.returns
unfolding devices
returns c = refl
