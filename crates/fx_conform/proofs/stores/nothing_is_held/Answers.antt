use Rattle.fx_conform.proofs.NothingAtFirst.{begins}
use Rattle.fx_conform.proofs.stores.nothing_is_held.Goals as goal

pub returns : goal.returns
returns c = record { begins = begins }
