use Rattle.std.proofs.Common.{◌≡◌, ℕ, List, Option, Some, None, ap, slice_get, sym, ◌∙◌}
use Rattle.std.proofs.lemmas.Option.{slice_get-get_or, slice_get_past}
use Rattle.fx_tables.specs.Network.{Holder, Net, at_places, exporters_of}
use Rattle.fx_ranks.specs.Feeding.{lead_to}
use Rattle.fx_ranks.proofs.feeders.aggregation_leads.Goals as goal

pub returns-in-Some : goal.returns-in-Some
returns-in-Some c =
    let net = c.args.linked.now in
    let xs = c.holders.result.now in
    let holder = c.in-Some.holder.now in
    let there = c.in-Some.ensures.lookup.3 in
    let same : xs ≡ net.holders = c.holders.ensures ∙ ap (λ (n : Net). n.holders) c.net.ensures in
    let found : slice_get net.holders c.args.aggregation.now.holder ≡ Some holder =
    ap (λ (ys : List Holder). slice_get ys c.args.aggregation.now.holder) (sym same)
    ∙ ap (slice_get xs) (sym c.holder.ensures) ∙ slice_get-get_or xs c.holder.result holder there.0
    ∙ ap Some (sym (there.1 holder)) in
    c.lead_to.ensures
    ∙ ap (λ (places : List ℕ). lead_to net c.args.process (at_places net.exporters places)) c.exporters.ensures
    ∙ ap (λ (o : Option Holder). lead_to net c.args.process (exporters_of net o)) (sym found)

pub returns-in-None : goal.returns-in-None
returns-in-None c =
    let net = c.args.linked.now in
    let xs = c.holders.result.now in
    let same : xs ≡ net.holders = c.holders.ensures ∙ ap (λ (n : Net). n.holders) c.net.ensures in
    let none : slice_get net.holders c.args.aggregation.now.holder ≡ None =
    ap (λ (ys : List Holder). slice_get ys c.args.aggregation.now.holder) (sym same)
    ∙ ap (slice_get xs) (sym c.holder.ensures) ∙ slice_get_past xs c.holder.result c.in-None.ensures.lookup.3 in
    ap (λ (o : Option Holder). lead_to net c.args.process (exporters_of net o)) (sym none)
