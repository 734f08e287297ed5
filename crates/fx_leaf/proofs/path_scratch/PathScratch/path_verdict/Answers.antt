use Rattle.std.proofs.Common.{List, Contains, ℕ, min, ap, sym, subst, take, ◌∙◌}
use Rattle.fx_leaf.specs.Leaves.{AddsVerdicts, nothing_known}
use Rattle.fx_leaf.specs.PathSelections.{IsNarrowed, PathSelection}
use Rattle.fx_leaf.specs.PathTables.{HasProcessRoom, IsPathBegun, PathTable}
use Rattle.fx_leaf.specs.Remaining.{AreAggregations}
use Rattle.fx_leaf.specs.Reach.{HoldsBehindSelection, IsMarked}
use Rattle.fx_leaf.specs.Verdicts.{verdict, verdicts_of}
use Rattle.fx_leaf.proofs.PathSelectionVerdicts.{all_meet, among_path, known_of_path, narrowed_within, ok_more}
use Rattle.fx_leaf.proofs.PathSplits.{err_more}
use Rattle.fx_leaf.proofs.path_scratch.PathScratch.path_verdict.Goals as goal

pub known_of-requires-clause-along : goal.known_of-requires-clause-along
known_of-requires-clause-along c = λ s at.
    let t = c.args.tables.now in
    let path = c.args.path.now in
    let m = c.min-active.result in
    let items = c.self.inside.selections.items in
    let begun = subst (IsPathBegun t path) (sym c.self.view_is) c.fill_for.ensures.begun in
    let there = subst (λ (xs : List PathSelection). Contains (take m xs) s) c.as_slice.ensures at in
    let meets = all_meet t.net path s (among_path t.net path items m s begun.selections there) in
    subst (λ (marks : List ℕ). HoldsBehindSelection t.net t.numbering (IsMarked marks) s.selection)
    (sym c.deref-3.ensures.value) (begun.marked.along s.selection meets)

pub returns-clause-ok : goal.returns-clause-ok
returns-clause-ok c =
    let t = c.args.tables.now in
    let path = c.args.path.now in
    let region = c.args.region.now in
    let m = c.min-active.result in
    let items = c.self.inside.selections.items in
    let begun = subst (IsPathBegun t path) (sym c.self.view_is) c.fill_for.ensures.begun in
    let same = ap (λ (p : PathTable). p.selections) c.self.view_is ∙ c.fill_for.ensures.kept in
    let narrowed = subst (λ (xs : List PathSelection). IsNarrowed xs region c.args.active) (sym same)
    c.requires.narrowed in
    let few = c.min-active.ensures in
    let long = c.len.ensures in
    ok_more _ _ c.known_of.result (λ known adds. known_of_path t.net path region items m known begun.selections
    (narrowed_within items region c.args.active m (few ∙ ap (λ (n : ℕ). min c.args.active n) long) narrowed)
    (subst (λ (xs : List PathSelection). AddsVerdicts nothing_known known
    (verdicts_of (verdict t.net region) t.net region (take m xs))) c.as_slice.ensures adds)) c.known_of.ensures.ok

pub returns-clause-err : goal.returns-clause-err
returns-clause-err c =
    let t = c.args.tables.now in
    let path = c.args.path.now in
    let m = c.min-active.result in
    let items = c.self.inside.selections.items in
    let begun = subst (IsPathBegun t path) (sym c.self.view_is) c.fill_for.ensures.begun in
    err_more _ _ c.known_of.result (λ s h. h path
    (λ e at. all_meet t.net path e (among_path t.net path items m e begun.selections
    (subst (λ (xs : List PathSelection). Contains (take m xs) e) c.as_slice.ensures at)))) c.known_of.ensures.err

pub invariant_of-verdicts : goal.invariant_of-verdicts
invariant_of-verdicts c =
    let t = c.args.tables.now in
    let here = subst (HasProcessRoom t) (sym c.self.view_is) c.fill_for.ensures.room in
    record { listed = subst (AreAggregations t.net.processes) (sym c.deref-2.ensures.value) here.matches }
