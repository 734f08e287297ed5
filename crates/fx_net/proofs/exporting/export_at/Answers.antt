use Rattle.std.proofs.Common.{◌≡◌, Option, ℕ, sym, ap, ◌∙◌, slice_get, Some}
use Rattle.std.proofs.lemmas.Result.{on_ok_weaker}
use Rattle.fx_tables.specs.Network.{Exporter}
use Rattle.fx_runs.specs.Destinations.{links_of_exporter, number_in_use, used_by}
use Rattle.fx_net.specs.Exporting.{put_each}
use Rattle.fx_net.proofs.Lookups.{found_in, none_in}
use Rattle.fx_net.proofs.exporting.export_at.Goals as goal

pub returns-in-None-clause-ok : goal.returns-in-None-clause-ok
returns-in-None-clause-ok c =
    let number = number_in_use c.args.chosen.now c.args.index in
    sym (ap (λ (e : Option Exporter). put_each c.args.time c.args.flow.now (used_by e number) c.args.links.now.items)
    (none_in c.exporters.result.now c.args.net.now.exporters c.args.index c.exporters.ensures
    c.in-None.ensures.lookup.3))

pub returns-in-Some-clause-ok : goal.returns-in-Some-clause-ok
returns-in-Some-clause-ok c =
    let links = c.args.links.now.items in
    let number = number_in_use c.args.chosen.now c.args.index in
    let exporter = c.in-Some.exporter.now in
    let at = c.in-Some.ensures.lookup.3 in
    let there : slice_get c.args.net.now.exporters c.args.index ≡ Some exporter =
    found_in c.exporters.result.now c.args.net.now.exporters c.args.index exporter c.exporters.ensures at.0
    (at.1 exporter) in
    on_ok_weaker c.export.result
    (λ sent. sent ∙ ap (λ (n : ℕ). put_each c.args.time c.args.flow.now (links_of_exporter exporter n) links)
    c.number_in_use.ensures
    ∙ sym (ap (λ (e : Option Exporter). put_each c.args.time c.args.flow.now (used_by e number) links) there))
    c.export.ensures.ok
