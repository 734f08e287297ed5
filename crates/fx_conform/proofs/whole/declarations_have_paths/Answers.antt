use Rattle.fx_conform.proofs.Paths.{declarations_have_paths}
use Rattle.fx_conform.proofs.whole.declarations_have_paths.Goals as goal

pub returns : goal.returns
returns c = declarations_have_paths
