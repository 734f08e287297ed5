use Rattle.std.proofs.Common.{sym, ◌∙◌}
use Rattle.fx_net.proofs.ChangedLists.{stored_is, stored_past}
use Rattle.fx_net.proofs.Lookups.{now_copied}
use Rattle.fx_net.proofs.holding.store_at.Goals as goal

pub returns-in-None : goal.returns-in-None
returns-in-None c = sym (stored_past c.args.stores.now c.args.index c.in-None.ensures.lookup.3)

pub returns-in-Some : goal.returns-in-Some
returns-in-Some c =
    let store = c.in-Some.store.now in
    let at = c.in-Some.ensures.lookup.3 in
    now_copied c.as_ref.result ∙ c.as_ref.ensures.value
    ∙ sym (stored_is c.args.stores.now c.args.index store at.0 (at.1 store))
