use Rattle.std.proofs.Common.{◌≡◌, ◌≤◌, ◌<◌, ◌∙◌, ℕ, List, ap, arith, get_or, subst, sym}
use Rattle.std.specs.List.Sorted.{IsPermutation}
use Rattle.std.proofs.lemmas.List.{with_items_is}
use Rattle.fx_leaf.specs.PathSelections.{PathSelection, SelectionRoom, IsApart, IsNarrowed}
use Rattle.fx_leaf.proofs.path_selections.PathSelections.narrow.Goals as goal

pub returns-clause-narrowed : goal.returns-clause-narrowed
returns-clause-narrowed c =
    let items_are = with_items_is c.self.inside.items c.narrow.new.selections
    (omega (arith, c.narrow.auto.selections, c.deref_mut.ensures.len)) in
    subst (λ (xs : List PathSelection). IsNarrowed xs c.args.region.now c.narrow.result) (sym items_are)
    c.narrow.ensures.narrowed

pub returns-clause-overlapping : goal.returns-clause-overlapping
returns-clause-overlapping c =
    let items_are = with_items_is c.self.inside.items c.narrow.new.selections
    (omega (arith, c.narrow.auto.selections, c.deref_mut.ensures.len)) in
    subst (λ (xs : List PathSelection). (k : ℕ) (d : PathSelection) → k < c.narrow.result
    → IsApart c.args.region.now (get_or xs k d).selection → ⊥) (sym items_are) c.narrow.ensures.overlapping

pub returns-clause-moved : goal.returns-clause-moved
returns-clause-moved c =
    let items_are = with_items_is c.self.inside.items c.narrow.new.selections
    (omega (arith, c.narrow.auto.selections, c.deref_mut.ensures.len)) in
    subst (λ (xs : List PathSelection). IsPermutation c.args.self.now.items xs) (sym items_are)
    (subst (λ (xs : List PathSelection). IsPermutation xs c.narrow.new.selections)
    (c.deref_mut.ensures.value ∙ ap (λ (r : SelectionRoom). r.items) c.self.view_is) c.narrow.ensures.moved)

pub returns-clause-others : goal.returns-clause-others
returns-clause-others c =
    let items_are = with_items_is c.self.inside.items c.narrow.new.selections
    (omega (arith, c.narrow.auto.selections, c.deref_mut.ensures.len)) in
    subst (λ (xs : List PathSelection). (k : ℕ) (d : PathSelection) → c.args.active ≤ k → get_or xs k d
    ≡ get_or c.args.self.now.items k d) (sym items_are)
    (subst (λ (xs : List PathSelection). (k : ℕ) (d : PathSelection) → c.args.active ≤ k
    → get_or c.narrow.new.selections k d ≡ get_or xs k d)
    (c.deref_mut.ensures.value ∙ ap (λ (r : SelectionRoom). r.items) c.self.view_is) c.narrow.ensures.others)
