use Rattle.std.proofs.Common.{ap, sym, subst, ◌∙◌, arith, length}
use Rattle.std.proofs.lemmas.List.{with_items_is}
use Rattle.fx_leaf.specs.PathTables.{HasProcessRoom, IsPathBegun, PathTable}
use Rattle.fx_leaf.specs.Tables.{Table}
use Rattle.fx_leaf.specs.Remaining.{AreAggregations}
use Rattle.fx_leaf.proofs.path_scratch.PathScratch.fill_for.Goals as goal

pub returns-then-self-clause-filled : goal.returns-then-self-clause-filled
returns-then-self-clause-filled c = c.requires.begun.marked.filled
    (ap (λ (p : PathTable). p.steady) (sym c.self.view_is) ∙ c.if-self.true) c.args.region.now

pub returns-clause-begun : goal.returns-clause-begun
returns-clause-begun c =
    let begun = subst (IsPathBegun c.args.tables.now c.args.path.now) (sym c.self.view_is) c.requires.begun in
    record {
      marked = record {
        along = begun.marked.along;
        closed = begun.marked.closed;
        filled = λ is. let no_more = c.if-self.false in absurd cc;
      };
      selections = begun.selections;
    }

pub fill-requires-clause-listed : goal.fill-requires-clause-listed
fill-requires-clause-listed c =
    let t = c.args.tables.now in
    let here = subst (HasProcessRoom t) (sym c.self.view_is) c.requires.room in
    subst (AreAggregations t.net.processes) (sym c.deref-2.ensures.value) here.matches

pub returns-clause-room : goal.returns-clause-room
returns-clause-room c =
    let here = subst (HasProcessRoom c.args.tables.now) (sym c.self.view_is) c.requires.room in
    let rows_are = with_items_is c.self.inside.rows c.fill.new.rows
    (omega (arith, c.fill.auto.rows, c.deref_mut.ensures.len)) in
    record {
      table = ap (λ (rs : Table). length rs) rows_are ∙ c.fill.ensures.size;
      marks = here.marks;
      matches =
          here.matches;
    }
