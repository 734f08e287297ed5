use Rattle.std.proofs.Common.{List, ap, subst, sym, ◌∙◌}
use Rattle.std.specs.List.Sorted.{IsPermutation}
use Rattle.std.proofs.lemmas.List.Sorted.{IsPermutation-refl}
use Rattle.fx_tables.specs.Network.{Net}
use Rattle.fx_leaf.specs.PathSelections.{PathSelection, path_selections}
use Rattle.fx_leaf.specs.PathTables.{HasProcessRoom, IsPathMarked}
use Rattle.fx_leaf.proofs.path_scratch.PathScratch.begin.Goals as goal

pub returns-clause-begun : goal.returns-clause-begun
returns-clause-begun c =
    let t = c.args.tables.now in
    let path = c.args.path.now in
    let here = subst (IsPathMarked t path) (sym c.self.view_is) c.mark_path.ensures.marked in
    let is = c.fill.ensures.items ∙ ap (λ (net : Net). path_selections net 1 path) c.net.ensures in
    record {
      marked = record { along = here.along; closed = here.closed; filled = here.filled };
      selections = subst (λ (xs : List PathSelection). IsPermutation (path_selections t.net 1 path) xs) (sym is)
          (IsPermutation-refl (path_selections t.net 1 path));
    }

pub returns-clause-room : goal.returns-clause-room
returns-clause-room c =
    let here = subst (HasProcessRoom c.args.tables.now) (sym c.self.view_is) c.mark_path.ensures.room in
    record { table = here.table; marks = here.marks; matches = here.matches }
