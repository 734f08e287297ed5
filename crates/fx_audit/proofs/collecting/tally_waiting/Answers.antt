-- The records of one slice and then those of the other are all that wait.
use Rattle.std.proofs.Common.{◌∙◌, ap, sym}
use Rattle.fx_collect.specs.Totals.{with_records}
use Rattle.fx_audit.proofs.Streams.{with_more}
use Rattle.fx_audit.proofs.collecting.tally_waiting.Goals as goal

pub returns-clause-totals : goal.returns-clause-totals
returns-clause-totals c =
    let first = c.records.result.0.now in
    let second = c.records.result.1.now in
    c.in_ok-tally_all-2.ensures.ok ∙ ap (λ t. with_records t second) c.in_ok-tally_all.ensures.ok
    ∙ sym (with_more c.args.totals.now first second) ∙ ap (with_records c.args.totals.now) (sym c.records.ensures)
