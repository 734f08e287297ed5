use Rattle.fx_plan.proofs.Numberings.{numbers_grow}
use Rattle.fx_plan.proofs.layouts.numbering_of.Goals as goal

pub returns-clause-numbers : goal.returns-clause-numbers
returns-clause-numbers c =
    rw c.in_ok-_report.ensures.known.0 (rw c.holders.ensures at
    (numbers_grow c.numbers_of.new.known.items c.report_layout.result.now c.holders.result.now
    c.in_ok-numbers.numbers.items c.in_ok-numbers.ensures.numbers))
