use Rattle.std.proofs.Common.{◌≡◌, ℕ, List, true, false, ap, sym, ◌∙◌, subst}
use Rattle.fx_layout.specs.Keys.{Layout, Key, same_layout}
use Rattle.fx_layout.proofs.Projections.{same_layout_is}
use Rattle.fx_machine.specs.Sums.{total_at}
use Rattle.fx_collect.specs.Totals.{Totals, records_of}
use Rattle.fx_collect.proofs.MapsOfCounts.{found_at, nothing_at_other}
use Rattle.fx_collect.proofs.totals.Totals.get.Goals as goal

pub returns-then-not-same : goal.returns-then-not-same
returns-then-not-same c =
    let other : same_layout c.self.inside.layout c.args.key.now.layout ≡ false =
    subst (λ (l : Layout). same_layout c.self.inside.layout l ≡ false) c.layout.ensures
    (sym c.same.ensures ∙ c.if-not-same.true) in
    sym (ap (λ (t : Totals). total_at t.entries c.args.key.now) (sym c.self.view_is)
    ∙ nothing_at_other c.self.inside.layout c.self.inside.counts.entries c.args.key.now other)

pub returns : goal.returns
returns c =
    let same : same_layout c.self.inside.layout c.args.key.now.layout ≡ true =
    subst (λ (l : Layout). same_layout c.self.inside.layout l ≡ true) c.layout.ensures
    (sym c.same.ensures ∙ c.if-not-same.false) in
    let one : c.self.inside.layout ≡ c.args.key.now.layout = same_layout_is _ _ same in
    let key : record { layout = c.self.inside.layout; values = c.of.result } ≡ c.args.key.now =
    ap (λ (l : Layout). record { layout = l; values = c.of.result }) one
    ∙ ap (λ (vs : List ℕ). record { layout = c.args.key.now.layout; values = vs }) c.of.ensures in
    c.copied.ensures ∙ c.get.ensures.value ∙ sym (found_at c.self.inside.layout c.self.inside.counts.entries
    c.of.result) ∙ ap (λ (k : Key). total_at (records_of c.self.inside.layout c.self.inside.counts.entries) k) key
    ∙ ap (λ (t : Totals). total_at t.entries c.args.key.now) c.self.view_is
