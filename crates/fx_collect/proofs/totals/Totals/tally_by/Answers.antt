use Rattle.std.proofs.Common.{arith, rules}
use Rattle.std.proofs.Common.{◌≡◌, ℕ, List, ap, sym, ◌∙◌, subst}
use Rattle.indexmap.proofs.MapLemmas.{OnOk-map}
use Rattle.fx_layout.specs.Keys.{Layout, HasBits, IsLayout}
use Rattle.fx_layout.proofs.Projections.{same_layout_is}
use Rattle.fx_machine.specs.States.{add_at}
use Rattle.fx_collect.specs.Totals.{Totals, with_record}
use Rattle.fx_collect.proofs.OwnKeys.{own_record}
use Rattle.fx_collect.proofs.totals.Totals.tally_by.Goals as goal

pub add_counts_at-requires : goal.add_counts_at-requires
add_counts_at-requires c =
    let same : c.args.entry.now.key.layout ≡ c.args.self.now.layout =
    sym (same_layout_is _ _ (sym c.same.ensures ∙ c.if-same.true) ∙ c.layout.ensures)
    ∙ ap (λ (t : Totals). t.layout) c.self.view_is in
    subst (λ (l : Layout). HasBits l c.own_values.result.now) same c.own_values.ensures.bits

pub returns-then-same-clause-ok : goal.returns-then-same-clause-ok
returns-then-same-clause-ok c =
    let t = c.args.self.now in
    let r = c.args.entry.now in
    let own : c.self.inside.layout ≡ t.layout = ap (λ (u : Totals). u.layout) c.self.view_is in
    let same : t.layout ≡ r.key.layout = sym own ∙ same_layout_is _ _ (sym c.same.ensures ∙ c.if-same.true)
    ∙ c.layout.ensures in
    let is : IsLayout t.layout = subst IsLayout (c.parts-parts.ensures.value ∙ own) c.parts-parts.ensures.kept in
    let bits : HasBits r.key.layout r.key.values =
    subst (HasBits r.key.layout) c.own_values.ensures.value c.own_values.ensures.bits in
    let with : List ℕ → Totals = λ vs. record t
    { entries = add_at t.entries (record { layout = t.layout; values = vs }) r.counts } in
    let new = c.add_counts_at.new.self in
    OnOk-map c.add_counts_at.result (new ≡ with c.own_values.result.now) (new ≡ with_record t r)
    (λ h. h ∙ ap with c.own_values.ensures.value ∙ own_record t r is bits same) c.add_counts_at.ensures.ok

pub returns-then-not-project_values-clause-ok : goal.returns-then-not-project_values-clause-ok
returns-then-not-project_values-clause-ok c = first_of (grind arith, search rules)
