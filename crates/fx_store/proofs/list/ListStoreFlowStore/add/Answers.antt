use Rattle.std.proofs.Common.{Option, is_some, sym, ap, ◌∙◌}
use Rattle.fx_base.specs.declared.counts.Counts.{Counts}
use Rattle.fx_store.specs.Flows.{with_more}
use Rattle.fx_store.proofs.Hashed.{adds_more, kept_more}
use Rattle.fx_store.proofs.Recency.{not_counted}
use Rattle.fx_store.proofs.list.ListStoreFlowStore.add.Goals as goal
use Rattle.fx_store.proofs.list.ListStoreFlowStore.add.Goals.{in-Some, in-None+in_ok-add_new-in-None}

pub invariant_of-self : goal.invariant_of-self
invariant_of-self c =
    let es = c.self.inside.flows.entries in
    let k = c.new-key.result in
    let n = (c.get_mut.follows.lender c.add.result).entries in
    let there = sym (ap is_some c.in-Some.ensures.value) in
    let more = c.add.ensures ∙ ap (λ (o : Option Counts). with_more o c.args.counts) c.in-Some.ensures.value in
    let adds = adds_more es n k c.args.counts c.add.result more ((c.get_mut.follows.holds c.add.result).3 there).0 in
    kept_more es n k c.args.counts c.self.inside.order.keys there adds c.self.invariant

pub returns-in_err-add_new-in-None-clause-held : goal.returns-in_err-add_new-in-None-clause-held
returns-in_err-add_new-in-None-clause-held c =
    rw (← c.self.view_is, ← c.new-key.ensures)
    (not_counted c.new-key.result c.self.inside.flows.entries (sym c.in-None.ensures.value))

pub returns-clause-ok : goal.returns-clause-ok
returns-clause-ok c = elim c.match-get_mut.branch [
  | in-Some w ↦
      let es = c.self.inside.flows.entries in
      let more = w.add.ensures ∙ ap (λ (o : Option Counts). with_more o c.args.counts) w.in-Some.ensures.value in
      rw (w.self-is, ← c.self.view_is, ← c.new-key.ensures)
      (adds_more es (c.get_mut.follows.lender w.add.result).entries c.new-key.result c.args.counts w.add.result more
      ((c.get_mut.follows.holds w.add.result).3 (sym (ap is_some w.in-Some.ensures.value))).0)
  | in-None+in_ok-add_new-in-None w ↦ rw (
    w.self-is,
    ← c.self.view_is,
    ← c.new-key.ensures,
    ← c.get_mut.follows.holds-at-none,
  ) w.in_ok-add_new-in-None.ensures.ok
]
