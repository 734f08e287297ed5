use Rattle.std.proofs.Common.{inl, inr}
use Rattle.std.proofs.lemmas.Result.{err_from_is_err_and}
use Rattle.fx_sums.proofs.Adding.{totals_refused, notes_refused, sum_added}
use Rattle.fx_sums.proofs.sum.Sum.add_text.Goals as goal

pub returns-in_err-add_totals-clause-err : goal.returns-in_err-add_totals-clause-err
returns-in_err-add_totals-clause-err g c =
    let p = err_from_is_err_and c.from_residual.result c.from_residual.ensures.1 in
    let s = c.self.inside in
    rw (p.1, p.2) (elim c.in_err-add_totals.ensures.err [
      | inl memory ↦ inl memory
      | inr refused ↦ inr (totals_refused c.args.keys c.args.self.now s.layout s.totals s.notes c.self.view_is
          c.self.invariant c.args.lines.now c.add_totals.new.lines c.in_err-add_totals.field-0.0 refused)
    ])

pub returns-in_err-notes-clause-err : goal.returns-in_err-notes-clause-err
returns-in_err-notes-clause-err g c =
    let p = err_from_is_err_and c.from_residual-in_err-notes.result c.from_residual-in_err-notes.ensures.1 in
    let s = c.self.inside in
    let totals = c.in_ok-add_totals.ensures in
    rw (p.1, p.2) (inr (notes_refused c.args.keys c.args.self.now s.layout s.totals s.notes c.self.view_is
    c.self.invariant c.args.lines.now c.read_notes.new.lines c.add_totals.new.lines c.add_totals.new.totals
    totals.ok c.in_err-notes.field-0.0 totals.on.going totals.on.on c.in_err-notes.ensures.err))

pub returns-clause-ok : goal.returns-clause-ok
returns-clause-ok g c =
    let s = c.self.inside in
    let totals = c.in_ok-add_totals.ensures in
    sum_added c.args.keys c.args.self.now s.layout s.totals s.notes c.self.view_is c.self.invariant c.args.lines.now
    c.read_notes.new.lines c.add_totals.new.lines c.add_totals.new.totals totals.ok c.in_ok-notes.notes
    c.plus-self-inside.result c.in_ok-notes.next totals.on c.in_ok-notes.ensures.ok c.plus-self-inside.ensures
