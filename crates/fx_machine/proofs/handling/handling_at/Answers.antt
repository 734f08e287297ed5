use Rattle.std.proofs.Common.{◌≡◌, ◌==◌, ◌∙◌, ap, sym, ℕ, List, Some, slice_get}
use Rattle.fx_tables.specs.Network.{Process}
use Rattle.fx_tables.specs.Takers.{intakes}
use Rattle.fx_machine.specs.Handling.{handling_acts}
use Rattle.fx_machine.proofs.MeteringActs.{handling_is}
use Rattle.fx_machine.proofs.handling.handling_at.Goals as goal

pub returns : goal.returns
returns c =
    let net = c.args.net.now in
    let key = c.args.key.now in
    let link = c.args.link in
    let index = c.in-Some.index.now in
    let process = c.in-Some-entry_at.process.now in
    let holdings = c.in_ok-holdings.holdings.items in
    let at : Some index ≡ slice_get net.links link = c.in-Some.ensures
    ∙ ap (λ (xs : List ℕ). slice_get xs link) c.links.ensures in
    let there : Some process ≡ slice_get net.processes index = c.in-Some-entry_at.ensures
    ∙ ap (λ (xs : List Process). slice_get xs index) c.processes.ensures in
    let process-takers : holdings ≡ intakes net.holders key process.aggregations = c.in_ok-holdings.ensures in
    handling_is net key link index process c.exporters.result.now holdings at there c.exporters.ensures process-takers
    ∙ ap (λ r. handling_acts net key (index == r) c.exporters.result.now holdings) (sym c.report.ensures)
