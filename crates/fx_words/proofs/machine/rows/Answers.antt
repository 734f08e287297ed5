use Rattle.std.proofs.Common.{refl}
use Rattle.fx_words.specs.Table.{machine}
use Rattle.fx_words.proofs.machine.rows.Goals as goal

pub returns : goal.returns
unfolding machine
returns c = refl
