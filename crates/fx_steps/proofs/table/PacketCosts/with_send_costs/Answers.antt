use Rattle.std.proofs.Common.{◌≡◌, ◌≤◌, ◌∙◌, ℕ, List, Option, Some, length, slice_get, sym, ap, ap₂}
use Rattle.std.proofs.lemmas.Option.{slice_get_past}
use Rattle.fx_tables.specs.Network.{Net, Exporter, before}
use Rattle.fx_leaf.proofs.CausesFound.{found_there}
use Rattle.fx_steps.specs.declared.costs.Costs.{Costs}
use Rattle.fx_steps.specs.Costs.{both_costs}
use Rattle.fx_steps.specs.CostTables.{CostTable, send_costs, sent_costs}
use Rattle.fx_steps.proofs.table.PacketCosts.with_send_costs.Goals as goal

module _ (table : CostTable) (net : Net) (layout index : ℕ) (xs : List Exporter) (same : xs ≡ net.exporters)
    (es : List Exporter) (others : Costs) (behind : others ≡ sent_costs table net layout es) where
  there : (o : Option Exporter) → slice_get xs index ≡ o → sent_costs table net layout (before o es)
      ≡ sent_costs table net layout (before (slice_get net.exporters index) es)
  there o at = ap (λ (p : Option Exporter). sent_costs table net layout (before p es))
      (sym at ∙ ap (λ (ys : List Exporter). slice_get ys index) same)

  without : length xs ≤ index → others ≡ sent_costs table net layout (before (slice_get net.exporters index) es)
  without le = behind ∙ there _ (slice_get_past xs index le)

  with_one : (e : Exporter) (here r : Costs) → slice_get xs index ≡ Some e → here ≡ send_costs table net layout e → r
      ≡ both_costs here others → r ≡ sent_costs table net layout (before (slice_get net.exporters index) es)
  with_one e here r at is both = both ∙ ap₂ both_costs is behind ∙ there (Some e) at

pub returns-in-None : goal.returns-in-None
returns-in-None c es behind =
    let net = c.args.self.now.tables.net in
    let same = c.exporters.ensures ∙ ap (λ (n : Net). n.exporters) c.net.ensures in
    without c.args.self.now.table net c.args.layout c.args.index c.exporters.result.now same es c.args.others behind
    c.in-None.ensures.lookup.3

pub returns-in-Some : goal.returns-in-Some
returns-in-Some c es behind =
    let net = c.args.self.now.tables.net in
    let same = c.exporters.ensures ∙ ap (λ (n : Net). n.exporters) c.net.ensures in
    let e = c.in-Some.exporter.now in
    let here = c.in-Some.ensures.lookup.3 in
    with_one c.args.self.now.table net c.args.layout c.args.index c.exporters.result.now same es c.args.others behind e
    c.send_costs.result c.both.result (found_there c.exporters.result.now c.args.index e here.0 (here.1 e))
    c.send_costs.ensures c.both.ensures
