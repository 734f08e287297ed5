use Rattle.std.proofs.Common.{◌≡◌, List, None, ap, sym, refl, ◌∙◌, subst}
use Rattle.fx_layout.specs.Keys.{Key}
use Rattle.fx_base.specs.declared.counts.Counts.{Counts}
use Rattle.fx_store.specs.Flows.{Entry, flows_of}
use Rattle.fx_store.specs.Recent.{AreKeysOf, counts_at}
use Rattle.fx_store.proofs.Hashed.{adds_new}
use Rattle.fx_store.proofs.Recency.{counted}
use Rattle.fx_store.proofs.Orders.{kept_alone, kept_back}
use Rattle.fx_store.proofs.list.ListStore.add_new.Goals as goal

pub invariant_of-self-in-Ok : goal.invariant_of-self-in-Ok
invariant_of-self-in-Ok c =
    let es = c.self.inside.flows.entries in
    let k = c.args.key in
    let none : counts_at es k ≡ None = ap (λ (xs : List Entry). counts_at xs k) c.self.view_is ∙ c.requires in
    let put = rw c.copy.ensures at c.in_ok-insert.ensures.updates.0 in
    kept_alone (flows_of es) (flows_of c.insert-2.new.self.entries) k c.args.counts None c.self.inside.order.keys
    c.insert.new.self.keys
    (adds_new es c.insert-2.new.self.entries k c.args.counts none c.in-Ok.ensures.updates.0) refl c.self.invariant put

pub invariant_of-self-in-Err : goal.invariant_of-self-in-Err
invariant_of-self-in-Err c =
    let es = c.self.inside.flows.entries in
    let k = c.args.key in
    let none : counts_at es k ≡ None = ap (λ (xs : List Entry). counts_at xs k) c.self.view_is ∙ c.requires in
    let put = rw c.copy.ensures at c.in_ok-insert.ensures.updates.0 in
    let taken = rw (ap (λ (p : Key × Counts). p.0) c.in-Err.ensures.value_returned) at c.remove.ensures.updates.0 in
    subst (λ (xs : List Entry). AreKeysOf (flows_of xs) c.remove.new.self.keys) (sym c.in-Err.ensures.err)
    (kept_back (flows_of es) k c.self.inside.order.keys c.insert.new.self.keys c.remove.new.self.keys c.self.invariant
    (counted k es ∙ none) put taken)

pub returns-in-Ok-clause-ok : goal.returns-in-Ok-clause-ok
returns-in-Ok-clause-ok c =
    let es = c.self.inside.flows.entries in
    let none : counts_at es c.args.key ≡ None = ap (λ (xs : List Entry). counts_at xs c.args.key) c.self.view_is
    ∙ c.requires in
    rw (← c.self.view_is) (adds_new es c.insert-2.new.self.entries c.args.key c.args.counts none
    c.in-Ok.ensures.updates.0)
