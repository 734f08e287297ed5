use Rattle.std.proofs.Common.{rules}
use Rattle.std.proofs.Common.{arith, subst, sym}
use Rattle.std.proofs.lemmas.List.Sorted.{IsPermutation-trans, length_permutation}
use Rattle.fx_leaf.specs.PathSelections.{IsApart, IsNarrowed, PathSelection, path_selections}
use Rattle.fx_leaf.specs.PathTables.{HasProcessRoom, IsPathBegun, PathTable}
use Rattle.fx_leaf.proofs.path_scratch.PathScratch.narrow_selections.Goals as goal

pub returns-clause-others : goal.returns-clause-others
returns-clause-others c = λ other more le h k d from less.
    let old = c.self.inside.selections.items in
    let before = subst (λ (p : PathTable). IsNarrowed p.selections other more) (sym c.self.view_is) h in
    let first = c.min-active.ensures in
    let same = c.narrow.ensures.others k d (omega (arith, from, le, first)) in
    let long = length_permutation old c.narrow.new.self.items c.narrow.ensures.moved in
    subst (λ (s : PathSelection). IsApart other s.selection) (sym same) (before k d from (omega (arith, less, long)))

pub returns-clause-begun : goal.returns-clause-begun
returns-clause-begun c = λ t path begun.
    let here = subst (IsPathBegun t path) (sym c.self.view_is) begun in
    record {
      marked = record { along = here.marked.along; closed = here.marked.closed; filled = here.marked.filled };
      selections = IsPermutation-trans (path_selections t.net 1 path) c.self.inside.selections.items
          c.narrow.new.self.items here.selections c.narrow.ensures.moved;
    }

pub narrow-requires-clause-narrowed : goal.narrow-requires-clause-narrowed
narrow-requires-clause-narrowed c = first_of (grind arith, search rules)

pub returns-clause-room : goal.returns-clause-room
returns-clause-room c = λ t room.
    let here = subst (HasProcessRoom t) (sym c.self.view_is) room in
    record { table = here.table; marks = here.marks; matches = here.matches }
