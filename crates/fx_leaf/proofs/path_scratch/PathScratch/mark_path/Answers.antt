use Rattle.std.proofs.Common.{List, ℕ, ap, sym, subst, ◌∙◌, arith, length}
use Rattle.std.specs.Vec.{with_items}
use Rattle.std.proofs.lemmas.List.{with_items_is}
use Rattle.fx_tables.specs.Network.{Net, Process}
use Rattle.fx_leaf.specs.Tables.{Table}
use Rattle.fx_leaf.specs.PathTables.{HasProcessRoom, IsPathMarked, TakeNoneIn}
use Rattle.fx_leaf.specs.Remaining.{AreAggregations}
use Rattle.fx_leaf.specs.Reach.{IsClosed, IsFilled}
use Rattle.fx_leaf.proofs.SteadyTables.{filled_for_each}
use Rattle.fx_leaf.proofs.path_scratch.PathScratch.mark_path.Goals as goal

pub fill-requires-clause-closed : goal.fill-requires-clause-closed
fill-requires-clause-closed c =
    let t = c.args.tables.now in
    let marks_are = with_items_is c.self.inside.marks c.mark.new.marks
    (omega (arith, c.mark.auto.marks, c.deref_mut.ensures.len)) in
    subst (IsClosed t.net t.numbering) (sym (c.deref-then-self.ensures.value ∙ marks_are)) c.mark.ensures.closed

pub returns-then-self-clause-marked : goal.returns-then-self-clause-marked
returns-then-self-clause-marked c =
    let t = c.args.tables.now in
    let marks = c.mark.new.marks in
    let rows = c.fill.new.rows in
    let path = c.args.path.now in
    let steady = c.take_none_in-self-inside.result in
    let marks_are = with_items_is c.self.inside.marks marks (omega (arith, c.mark.auto.marks, c.deref_mut.ensures.len))
    in
    let rows_are = with_items_is c.self.inside.rows rows
    (omega (arith, c.fill.auto.rows, c.deref_mut-then-self.ensures.len)) in
    let same = c.processes.ensures ∙ ap (λ (net : Net). net.processes) c.net.ensures in
    let none = subst (λ (ps : List Process). TakeNoneIn ps marks) same
    (subst (TakeNoneIn c.processes.result.now) (c.deref.ensures.value ∙ marks_are)
    (c.take_none_in-self-inside.ensures c.if-self.true)) in
    let filled = subst (λ (ms : List ℕ). IsFilled t.net t.numbering c.whole.result ms rows)
    (c.deref-then-self.ensures.value ∙ marks_are) c.fill.ensures in
    let begun : IsPathMarked t path (record {
      table = rows;
      marks = marks;
      steady = steady;
      selections = c.self.inside.selections.items;
      room =
          c.self.inside.selections.room;
      matches = c.self.inside.matches.items;
    }) = record {
      along = c.mark.ensures.along;
      closed = c.mark.ensures.closed;
      filled = λ is. filled_for_each t c.requires.tables marks rows none c.whole.result filled;
    } in
    let filled_in = subst (λ (rs : Table). IsPathMarked t path
    (record {
      table = rs;
      marks = marks;
      steady = steady;
      selections = c.self.inside.selections.items;
      room =
          c.self.inside.selections.room;
      matches = c.self.inside.matches.items;
    })) (sym rows_are) begun in
    subst (λ (ms : List ℕ). IsPathMarked t path
    (record {
      table = (with_items c.self.inside.rows rows).items;
      marks = ms;
      steady = steady;
      selections =
          c.self.inside.selections.items;
      room = c.self.inside.selections.room;
      matches = c.self.inside.matches.items;
    }))
    (sym marks_are) filled_in

pub returns-else-self-clause-marked : goal.returns-else-self-clause-marked
returns-else-self-clause-marked c =
    let t = c.args.tables.now in
    let marks = c.mark.new.marks in
    let marks_are = with_items_is c.self.inside.marks marks (omega (arith, c.mark.auto.marks, c.deref_mut.ensures.len))
    in
    let rows = c.self.inside.rows.items in
    let path = c.args.path.now in
    let steady = c.take_none_in-self-inside.result in
    let begun : IsPathMarked t path (record {
      table = rows;
      marks = marks;
      steady = steady;
      selections = c.self.inside.selections.items;
      room =
          c.self.inside.selections.room;
      matches = c.self.inside.matches.items;
    }) = record {
      along = c.mark.ensures.along;
      closed = c.mark.ensures.closed;
      filled = λ is. let no = c.if-self.false in absurd cc;
    } in
    subst (λ (ms : List ℕ). IsPathMarked t path
    (record {
      table = rows;
      marks = ms;
      steady = steady;
      selections = c.self.inside.selections.items;
      room =
          c.self.inside.selections.room;
      matches = c.self.inside.matches.items;
    })) (sym marks_are) begun

pub fill-requires-clause-listed : goal.fill-requires-clause-listed
fill-requires-clause-listed c =
    let t = c.args.tables.now in
    let here = subst (HasProcessRoom t) (sym c.self.view_is) c.requires.room in
    subst (AreAggregations t.net.processes) (sym c.deref-then-self-2.ensures.value) here.matches

pub returns-then-self-clause-room : goal.returns-then-self-clause-room
returns-then-self-clause-room c =
    let here = subst (HasProcessRoom c.args.tables.now) (sym c.self.view_is) c.requires.room in
    let marks_are = with_items_is c.self.inside.marks c.mark.new.marks
    (omega (arith, c.mark.auto.marks, c.deref_mut.ensures.len)) in
    let rows_are = with_items_is c.self.inside.rows c.fill.new.rows
    (omega (arith, c.fill.auto.rows, c.deref_mut-then-self.ensures.len)) in
    let as_many = ap (λ (ms : List ℕ). length ms) marks_are in
    let before = ap (λ (ms : List ℕ). length ms) c.deref_mut.ensures.value in
    record {
      table = ap (λ (rs : Table). length rs) rows_are ∙ c.fill.ensures.size;
      marks = omega (arith, as_many, before, c.mark.auto.marks, here.marks);
      matches = here.matches;
    }

pub returns-else-self-clause-room : goal.returns-else-self-clause-room
returns-else-self-clause-room c =
    let here = subst (HasProcessRoom c.args.tables.now) (sym c.self.view_is) c.requires.room in
    let marks_are = with_items_is c.self.inside.marks c.mark.new.marks
    (omega (arith, c.mark.auto.marks, c.deref_mut.ensures.len)) in
    let as_many = ap (λ (ms : List ℕ). length ms) marks_are in
    let before = ap (λ (ms : List ℕ). length ms) c.deref_mut.ensures.value in
    record {
      table = here.table;
      marks = omega (arith, as_many, before, c.mark.auto.marks, here.marks);
      matches =
          here.matches;
    }
