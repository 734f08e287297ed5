use Rattle.std.proofs.Common.{◌≤◌, ◌∙◌, sym, ap, subst, Option}
use Rattle.fx_link.specs.Ongoing.{Ongoing, after_carry}
use Rattle.fx_net.specs.Arriving.{queued_on}
use Rattle.fx_net.proofs.ChangedLists.{changed_past, changed_set}
use Rattle.fx_net.proofs.RecordsHandled.{link_is}
use Rattle.fx_net.proofs.arriving.carry_on.Goals as goal

pub returns-in_default-clause-ok : goal.returns-in_default-clause-ok
returns-in_default-clause-ok c = sym (changed_past _ _ _ c.in_default.ensures.item.3)

pub carry-requires : goal.carry-requires
carry-requires c = record {
  queue = subst (λ (o : Option Ongoing). c.args.count ≤ queued_on o)
      (link_is c.args.links.now.items c.args.link c.in-Some.link.now c.in-Some.ensures.item.3.0 c.in-Some.ensures.value)
      c.requires;
}

pub returns-in-Ok-clause-ok : goal.returns-in-Ok-clause-ok
returns-in-Ok-clause-ok c =
    changed_set (after_carry c.args.count) c.args.links.now.items c.args.link c.in-Some.link.now _
    c.in-Some.ensures.item.3.0 (c.in-Ok.ensures.ok ∙ ap (after_carry c.args.count) c.in-Some.ensures.value)
