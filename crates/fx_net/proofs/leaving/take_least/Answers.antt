use Rattle.std.proofs.Common.{◌≡◌, ◌∙◌, sym, ap, subst, get_or, Option}
use Rattle.fx_net.specs.Stores.{Stored}
use Rattle.fx_net.specs.Leaving.{least_of}
use Rattle.fx_net.proofs.ChangedLists.{stored_is, stored_past, changed_past, taken_is, without_none_set, without_some}
use Rattle.fx_net.proofs.leaving.take_least.Goals as goal

pub returns-in-None-clause-value : goal.returns-in-None-clause-value
returns-in-None-clause-value c = sym (ap least_of (stored_past _ _ c.in-None.ensures.item.3))

pub returns-in-None-clause-rest : goal.returns-in-None-clause-rest
returns-in-None-clause-rest c = sym (changed_past _ _ _ c.in-None.ensures.item.3)

pub returns-in-None-store-clause-value : goal.returns-in-None-store-clause-value
returns-in-None-store-clause-value c = sym (ap least_of
    (stored_is _ _ _ c.in-Some.ensures.item.3.0 c.in-Some.ensures.value ∙ c.in-None-store.is))

pub returns-in-None-store-clause-rest : goal.returns-in-None-store-clause-rest
returns-in-None-store-clause-rest c = without_none_set _ _ _ c.in-Some.ensures.item.3.0 c.in-Some.ensures.value
    c.in-None-store.is

pub returns-in-Some-store-clause-value : goal.returns-in-Some-store-clause-value
returns-in-Some-store-clause-value c = c.take_least.ensures.value
    ∙ sym (ap least_of (stored_is _ _ _ c.in-Some.ensures.item.3.0 c.in-Some.ensures.value ∙ c.in-Some-store.is))

pub returns-in-Some-store-clause-rest : goal.returns-in-Some-store-clause-rest
returns-in-Some-store-clause-rest c =
    let xs = c.args.stores.now.items in
    let n = c.args.index in
    let old = c.in-Some-store.store in
    without_some xs n old c.take_least.new.self c.take_least.result c.in-Some.ensures.item.3.0
    (subst (λ (x : Option Stored). x ≡ get_or xs n x) c.in-Some-store.is c.in-Some.ensures.value)
    (taken_is c.take_least.result old c.take_least.new.self c.take_least.ensures.stored c.take_least.ensures.none)
    c.take_least.ensures.value
