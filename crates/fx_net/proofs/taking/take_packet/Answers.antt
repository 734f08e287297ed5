use Rattle.std.proofs.Common.{◌≡◌, ◌++◌, ◌∙◌, false, sym, ap, slice_get}
use Rattle.std.proofs.lemmas.Result.{on_ok_weaker}
use Rattle.fx_layout.specs.Keys.{Layout, key_of}
use Rattle.fx_tables.specs.Network.{layout_of}
use Rattle.fx_tables.specs.declared.holding.Holding.{Holding}
use Rattle.fx_net.specs.Contents.{is_immediate, stored_at}
use Rattle.fx_net.specs.Taking.{Adding, leaves_at_once, with_holding}
use Rattle.fx_net.proofs.Lookups.{found_in}
use Rattle.fx_net.proofs.StoresTakeIn.{none_at_once}
use Rattle.fx_net.proofs.taking.take_packet.Goals as goal

pub returns-then-is_immediate-clause-ok : goal.returns-then-is_immediate-clause-ok
returns-then-is_immediate-clause-ok c =
    let adding : Adding = record { stores = c.args.stores.now.items; left = c.args.leavers.now.left.items } in
    on_ok_weaker c.take.result (λ taken. taken
    ∙ ap (λ (h : Holding). with_holding c.args.counts h adding) c.holding.ensures) c.take.ensures.ok

pub returns-then-is_immediate-clause-passing : goal.returns-then-is_immediate-clause-passing
returns-then-is_immediate-clause-passing c =
    on_ok_weaker c.take.result
    (λ taken. taken ∙ ap (λ (h : Holding). c.args.leavers.now.passing.items
    ++ leaves_at_once c.args.stores.now.items c.args.counts h) c.holding.ensures)
    c.take.ensures.passing

pub returns-in-None-clause-ok : goal.returns-in-None-clause-ok
returns-in-None-clause-ok c =
    let adding : Adding = record { stores = c.args.stores.now.items; left = c.args.leavers.now.left.items } in
    on_ok_weaker c.take-in-None.result (λ taken. taken
    ∙ ap (λ (h : Holding). with_holding c.args.counts h adding) c.holding-in-None.ensures) c.take-in-None.ensures.ok

pub returns-in-None-clause-passing : goal.returns-in-None-clause-passing
returns-in-None-clause-passing c =
    on_ok_weaker c.take-in-None.result
    (λ taken. taken ∙ ap (λ (h : Holding). c.args.leavers.now.passing.items
    ++ leaves_at_once c.args.stores.now.items c.args.counts h) c.holding-in-None.ensures)
    c.take-in-None.ensures.passing

pub returns-in-Some-clause-ok : goal.returns-in-Some-clause-ok
returns-in-Some-clause-ok c =
    let net = c.args.net.now in
    let index = c.args.occurrence.now.holder in
    let holder = c.in-Some.holder.now in
    let at = c.in-Some.ensures.lookup.3 in
    let with : Layout → Holding = λ l. record { holder = index; key = key_of l c.args.fields.now } in
    let layout : c.layout.result.now ≡ layout_of (slice_get net.holders index) =
    c.layout.ensures ∙ sym (ap layout_of (found_in c.holders.result.now net.holders index holder c.holders.ensures at.0
    (at.1 holder))) in
    let adding : Adding = record { stores = c.args.stores.now.items; left = c.args.leavers.now.left.items } in
    on_ok_weaker c.add_packet.result (λ added. added
    ∙ ap (λ (l : Layout). with_holding c.args.counts (with l) adding) layout) c.add_packet.ensures.ok

pub returns-in-Some-clause-passing : goal.returns-in-Some-clause-passing
returns-in-Some-clause-passing c =
    let stores = c.args.stores.now.items in
    let index = c.args.occurrence.now.holder in
    let h : Holding = record {
      holder = index;
      key =
          key_of (layout_of (slice_get c.args.net.now.holders index)) c.args.fields.now;
    } in
    let holds : is_immediate (stored_at stores index) ≡ false =
    sym (c.is_immediate.ensures ∙ ap (λ xs. is_immediate (stored_at xs index)) c.as_slice.ensures.value)
    ∙ c.if-is_immediate.false in
    on_ok_weaker c.add_packet.result (λ _. none_at_once stores c.args.counts h c.args.leavers.now.passing.items holds)
    c.add_packet.ensures.ok
