use Rattle.std.proofs.Common.{inl, inr}
use Rattle.std.proofs.lemmas.Result.{err_from_is_err_and}
use Rattle.fx_sums.proofs.Adding.{records_refused, unassigned_refused, totals_added}
use Rattle.fx_sums.proofs.NotesRead.{goes_on_from}
use Rattle.fx_sums.proofs.text_lines.add_totals.Goals as goal

pub returns-in_err-tally_records-clause-err : goal.returns-in_err-tally_records-clause-err
returns-in_err-tally_records-clause-err g c =
    let p = err_from_is_err_and c.from_residual.result c.from_residual.ensures.1 in
    rw (p.1, p.2) (elim c.in_err-tally_records.ensures.err [
      | inl memory ↦ inl memory
      | inr refused ↦ inr (records_refused c.args.layout.now c.args.keys c.args.totals.now c.args.lines.now
          c.tally_records.new.lines _ refused)
    ])

pub returns-in_err-unassigned-clause-err : goal.returns-in_err-unassigned-clause-err
returns-in_err-unassigned-clause-err g c =
    let p = err_from_is_err_and c.from_residual-in_err-unassigned.result c.from_residual-in_err-unassigned.ensures.1 in
    let records = c.in_ok-tally_records.ensures in
    rw (p.1, p.2) (inr (unassigned_refused c.args.layout.now c.args.keys c.args.totals.now c.args.lines.now
    c.tally_records.new.lines c.tally_records.new.totals records.ok c.read_number.new.lines _ records.going
    records.on c.in_err-unassigned.ensures.err))

pub returns-clause-ok : goal.returns-clause-ok
returns-clause-ok g c =
    let records = c.in_ok-tally_records.ensures in
    totals_added c.args.layout.now c.args.keys c.args.totals.now c.args.lines.now c.tally_records.new.lines
    c.tally_records.new.totals records.ok c.read_number.new.lines c.in_ok-unassigned.unassigned
    c.add_unassigned.new.self c.in_ok-unassigned.ensures.ok c.add_unassigned.ensures

pub returns-clause-on : goal.returns-clause-on
returns-clause-on g c =
    let records = c.in_ok-tally_records.ensures in
    goes_on_from c.args.lines.now c.tally_records.new.lines c.read_number.new.lines records.on records.smaller
    c.in_ok-unassigned.ensures.on
