use Rattle.fx_conform.proofs.UsableStores.{new_is_usable, added_is_usable, left_is_usable, taken_is_usable}
use Rattle.fx_conform.proofs.stores.stores_stay_usable.Goals as goal

pub returns-clause-new : goal.returns-clause-new
returns-clause-new c = new_is_usable

pub returns-clause-added : goal.returns-clause-added
returns-clause-added c = added_is_usable

pub returns-clause-taken : goal.returns-clause-taken
returns-clause-taken c = (left_is_usable, taken_is_usable)
