use Rattle.std.proofs.Common.{◌≡◌, ◌∙◌, subst, get_or, Option}
use Rattle.std.proofs.lemmas.Result.{on_ok_weaker}
use Rattle.fx_layout.specs.Keys.{key_of}
use Rattle.fx_tables.specs.declared.holding.Holding.{Holding}
use Rattle.fx_net.specs.Stores.{Stored}
use Rattle.fx_net.proofs.StoresTakeIn.{holding_past, holding_none, holding_some, none_more, one_more}
use Rattle.fx_net.proofs.taking.add_packet.Goals as goal

pub returns-in_default-clause-ok : goal.returns-in_default-clause-ok
returns-in_default-clause-ok c =
    let h : Holding = record { holder = c.args.index; key = key_of c.args.layout.now c.args.fields.now } in
    holding_past c.args.counts h c.args.stores.now.items c.args.left.now.items c.in_default.ensures.item.3

pub returns-in_default-store-clause-ok : goal.returns-in_default-store-clause-ok
returns-in_default-store-clause-ok c =
    let h : Holding = record { holder = c.args.index; key = key_of c.args.layout.now c.args.fields.now } in
    holding_none c.args.counts h c.args.stores.now.items c.args.left.now.items c.in-Some.store.now
    c.in-Some.ensures.item.3.0 c.in-Some.ensures.value c.in_default-store.is

pub returns-in-Ok-None-clause-ok : goal.returns-in-Ok-None-clause-ok
returns-in-Ok-None-clause-ok c =
    let h : Holding = record { holder = c.args.index; key = key_of c.args.layout.now c.args.fields.now } in
    let counts = c.args.counts in
    let stores = c.args.stores.now.items in
    let left = c.args.left.now.items in
    let old = c.in-Some-store.store in
    none_more stores h.holder c.add_packet.new.self left c.in-Ok-None.field-0 c.in-Ok-None.field-0-is
    ∙ holding_some counts h stores left old c.add_packet.new.self c.in-Ok-None.field-0 c.in-Some.ensures.item.3.0
    (subst (λ (x : Option Stored). x ≡ get_or stores h.holder x) c.in-Some-store.is c.in-Some.ensures.value)
    c.in-Ok-None.ensures.stored c.in-Ok-None.ensures.leaves

pub returns-in-Ok-Some-clause-ok : goal.returns-in-Ok-Some-clause-ok
returns-in-Ok-Some-clause-ok c =
    let h : Holding = record { holder = c.args.index; key = key_of c.args.layout.now c.args.fields.now } in
    let counts = c.args.counts in
    let stores = c.args.stores.now.items in
    let left = c.args.left.now.items in
    let old = c.in-Some-store.store in
    on_ok_weaker c.push_leaver.result
    (λ more. one_more stores h.holder c.add_packet.new.self left c.push_leaver.new.leavers.items c.in-Ok-Some.field-0
    c.in-Ok-Some.key c.in-Ok-Some.counts c.in-Ok-Some.field-0-is more
    ∙ holding_some counts h stores left old c.add_packet.new.self c.in-Ok-Some.field-0 c.in-Some.ensures.item.3.0
    (subst (λ (x : Option Stored). x ≡ get_or stores h.holder x) c.in-Some-store.is c.in-Some.ensures.value)
    c.in-Ok-Some.ensures.stored c.in-Ok-Some.ensures.leaves)
    c.push_leaver.ensures.ok
