use Rattle.std.proofs.Common.{subst, ap, ◌∙◌, length, le_refl, List}
use Rattle.fx_base.specs.declared.counts.Counts.{Counts}
use Rattle.fx_tables.specs.declared.record.Record.{Record}
use Rattle.fx_machine.specs.Places.{FirstAt, NoneBefore}
use Rattle.fx_machine.proofs.Lists.{first_found, add_at_none}
use Rattle.fx_machine.proofs.tallying.add_at.Goals as goal

pub returns-in-Some-clause-ok : goal.returns-in-Some-clause-ok
returns-in-Some-clause-ok c =
    let old = c.index_mut-total.result.now in
    let with' : Counts → Record = λ x. record { key = old.key; counts = x } in
    first_found c.in-Some.index c.args.totals.now.items c.args.key c.args.counts.now old (with' c.add-total.result)
    (subst (λ (xs : List Record). FirstAt c.in-Some.index xs c.args.key) c.deref.ensures.value
    c.in-Some.ensures.some) c.index_mut-total.ensures.value (ap with' c.add-total.ensures)

pub returns-clause-ok : goal.returns-clause-ok
returns-clause-ok c = c.in_ok-push.ensures.items
    ∙ add_at_none (length c.args.totals.now.items) c.args.totals.now.items c.args.key c.args.counts.now
    (le_refl (length c.args.totals.now.items))
    (subst (λ (xs : List Record). NoneBefore (length xs) xs c.args.key) c.deref.ensures.value c.in_default.ensures.none)
