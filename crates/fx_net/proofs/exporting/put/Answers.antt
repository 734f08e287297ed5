use Rattle.std.proofs.Common.{arith, rules}
use Rattle.std.proofs.Common.{◌∙◌, sym, ap}
use Rattle.fx_tables.specs.declared.record.Record.{Record}
use Rattle.fx_net.specs.Exporting.{with_waiting}
use Rattle.fx_net.proofs.ChangedLists.{changed_past, changed_set}
use Rattle.fx_net.proofs.exporting.put.Goals as goal

pub returns-in_default-clause-ok : goal.returns-in_default-clause-ok
returns-in_default-clause-ok c = sym (changed_past _ _ _ c.in_default.ensures.item.3)

pub returns-clause-ok : goal.returns-clause-ok
returns-clause-ok c =
    let link = c.in-Some.link.now in
    changed_set (with_waiting c.args.time c.args.flow.now) c.args.links.now.items c.args.link link _
    c.in-Some.ensures.item.3.0
    (c.in_ok-put.ensures.ok ∙ ap (λ (r : Record). with_waiting c.args.time r link) c.copy.ensures
    ∙ ap (with_waiting c.args.time c.args.flow.now) c.in-Some.ensures.value)

pub returns-then-not-has_room-clause-ok : goal.returns-then-not-has_room-clause-ok
returns-then-not-has_room-clause-ok c = first_of (grind arith, search rules)
