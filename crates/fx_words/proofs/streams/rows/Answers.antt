use Rattle.std.proofs.Common.{refl}
use Rattle.fx_words.specs.Table.{streams}
use Rattle.fx_words.proofs.streams.rows.Goals as goal

pub returns : goal.returns
unfolding streams
returns c = refl
