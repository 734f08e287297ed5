use Rattle.std.proofs.Common.{◌≡◌, ◌||◌, true, ℕ, List, Bool, Some, None, ap, slice_get, sym, ◌∙◌}
use Rattle.std.specs.List.{list_any}
use Rattle.std.proofs.lemmas.Option.{slice_get-get_or, slice_get_past}
use Rattle.fx_tables.specs.Network.{Net, Process, at_places, exporters_of}
use Rattle.fx_ranks.specs.Feeding.{feeds_by, lead_to}
use Rattle.fx_ranks.proofs.feeders.feeds.Goals as goal

pub returns-in-None : goal.returns-in-None
returns-in-None c =
    let net = c.args.linked.now in
    let same = c.processes.ensures ∙ ap (λ (n : Net). n.processes) c.net.ensures in
    let none : slice_get net.processes c.args.from ≡ None =
    ap (λ (ps : List Process). slice_get ps c.args.from) (sym same)
    ∙ slice_get_past c.processes.result.now c.args.from c.in-None.ensures.lookup.3 in
    ap (feeds_by net c.args.to) (sym none)

pub returns-then-lead_to : goal.returns-then-lead_to
returns-then-lead_to c =
    let net = c.args.linked.now in
    let to = c.args.to in
    let process = c.in-Some.process.now in
    let there = c.in-Some.ensures.lookup.3 in
    let same = c.processes.ensures ∙ ap (λ (n : Net). n.processes) c.net.ensures in
    let found : slice_get net.processes c.args.from ≡ Some process =
    ap (λ (ps : List Process). slice_get ps c.args.from) (sym same)
    ∙ slice_get-get_or c.processes.result.now c.args.from process there.0 ∙ ap Some (sym (there.1 process)) in
    let leads : lead_to net to (at_places net.exporters process.exporters) ≡ true =
    sym (c.lead_to.ensures ∙ ap (λ (places : List ℕ). lead_to net to (at_places net.exporters places))
    c.exporters.ensures) ∙ c.if-lead_to.true in
    c.if-lead_to.true ∙ ap (λ (b : Bool). b || list_any
    (λ a. lead_to net to (exporters_of net (slice_get net.holders a.holder))) process.aggregations) (sym leads)
    ∙ ap (feeds_by net to) (sym found)
