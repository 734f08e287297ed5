use Rattle.std.proofs.Common.{refl}
use Rattle.fx_words.specs.Table.{certificates}
use Rattle.fx_words.proofs.certificates.rows.Goals as goal

pub returns : goal.returns
unfolding certificates
returns c = refl
