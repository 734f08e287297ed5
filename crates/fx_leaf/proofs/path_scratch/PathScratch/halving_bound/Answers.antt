use Rattle.std.proofs.Common.{arith, ap, sym, subst, ◌<◌, ◌∙◌, ℕ, Contains, IfSome, List, Option, get_or, take}
use Rattle.std.proofs.lemmas.List.{get_or-take, length-take}
use Rattle.fx_elements.specs.declared.axis.Axis.{Axis}
use Rattle.fx_tables.specs.declared.traffic.Crossing.{Crossing}
use Rattle.fx_tables.specs.Network.{Net}
use Rattle.fx_leaf.specs.PathSelections.{IsApart, PathSelection}
use Rattle.fx_leaf.specs.PathTables.{HasProcessRoom, IsPathBegun, PathTable}
use Rattle.fx_leaf.specs.Remaining.{AreAggregations}
use Rattle.fx_leaf.specs.Reach.{HoldsBehindSelection, IsMarked}
use Rattle.fx_leaf.specs.Splits.{IsSplit, Meets}
use Rattle.fx_leaf.proofs.PathSelectionVerdicts.{all_meet, among_path}
use Rattle.fx_leaf.proofs.path_scratch.PathScratch.halving_bound.Goals as goal

pub halving_match-requires-clause-along : goal.halving_match-requires-clause-along
halving_match-requires-clause-along c = λ s at.
    let t = c.args.tables.now in
    let path = c.args.path.now in
    let m = c.min-active.result in
    let items = c.self.inside.selections.items in
    let begun = subst (IsPathBegun t path) (sym c.self.view_is) c.requires.begun in
    let there = subst (λ (xs : List PathSelection). Contains (take m xs) s) c.as_slice.ensures at in
    let meets = all_meet t.net path s (among_path t.net path items m s begun.selections there) in
    subst (λ (marks : List ℕ). HoldsBehindSelection t.net t.numbering (IsMarked marks) s.selection)
    (sym c.deref-3.ensures.value) (begun.marked.along s.selection meets)

pub returns-clause-ok : goal.returns-clause-ok
returns-clause-ok c = λ split.
    let t = c.args.tables.now in
    let path = c.args.path.now in
    let begun = subst (IsPathBegun t path) (sym c.self.view_is) c.requires.begun in
    let m = c.min-active.result in
    let items = c.self.inside.selections.items in
    c.in_ok-halving_match.ensures path (λ each at. all_meet t.net path each
    (among_path t.net path items m each begun.selections
    (subst (λ (xs : List PathSelection). Contains (take m xs) each) c.as_slice.ensures at))) split

pub halving_selections-requires : goal.halving_selections-requires
halving_selections-requires c = λ k d less apart.
    let region = c.args.region.now in
    let m = c.min-active.result in
    let given = c.as_slice.result.now in
    let few = c.min-active.ensures in
    let long = length-take m given in
    let within : k < m = omega (arith, less, long) in
    let same = get_or-take m given k d within ∙ ap (λ (xs : List PathSelection). get_or xs k d) c.as_slice.ensures
    ∙ ap (λ (p : PathTable). get_or p.selections k d) c.self.view_is in
    c.requires.overlapping k d (omega (arith, within, few))
    (subst (λ (s : PathSelection). IsApart region s.selection) same apart)

pub returns-in-Some-clause-ok : goal.returns-in-Some-clause-ok
returns-in-Some-clause-ok c = λ split.
    let t = c.args.tables.now in
    let path = c.args.path.now in
    let region = c.args.region.now in
    let begun = subst (IsPathBegun t path) (sym c.self.view_is) c.requires.begun in
    let m = c.min-active.result in
    let items = c.self.inside.selections.items in
    let given = c.as_slice.result.now in
    let found = subst (λ (o : Option (Axis × ℕ)). IfSome o
    (λ s. (net : Net) (way : List Crossing)
    → ((each : PathSelection) → Contains (take m given) each → Meets net way each.selection)
    → IsSplit net way region s.0 s.1)) c.in-Some.is c.in_ok-split.ensures in
    found t.net path (λ each at. all_meet t.net path each
    (among_path t.net path items m each begun.selections
    (subst (λ (xs : List PathSelection). Contains (take m xs) each) c.as_slice.ensures at)))

pub invariant_of-verdicts : goal.invariant_of-verdicts
invariant_of-verdicts c =
    let t = c.args.tables.now in
    let here = subst (HasProcessRoom t) (sym c.self.view_is) c.requires.room in
    record { listed = subst (AreAggregations t.net.processes) (sym c.deref-2.ensures.value) here.matches }
