use Rattle.std.proofs.Common.{◌≡◌, ℕ, ◌<◌, ◌≤◌, ◌∙◌, List, length, get_or, Option, Some, None, refl, sym, ap, rules, subst, slice_get, inr}
use Rattle.std.proofs.lemmas.Option.{slice_get-get_or, slice_get_past}
use Rattle.fx_base.specs.Entries.{entry_numbered}
use Rattle.fx_topology.specs.declared.network.NetworkDocument.{NetworkDocument}
use Rattle.fx_tables.specs.Network.{Exporter, Net}
use Rattle.fx_plan.specs.ExporterPlaces.{exporter_place}
use Rattle.fx_plan.specs.Tables.{net_of}
use Rattle.fx_net.specs.Running.{HasNoDestination, RunningNetwork}
use Rattle.fx_net.proofs.Lookups.{found_in}
use Rattle.fx_net.proofs.network.Network.use_destination.Goals as goal

module _ (network own : NetworkDocument) (same : own ≡ network) (device exporter destination index : ℕ)
    (found : Option ℕ) (is : found ≡ exporter_place own device exporter) (some : found ≡ Some index)
    (xs : List Exporter) (are : xs ≡ (net_of own).exporters) where
  -- it is the one at this place
  alone : (p : ℕ) (e : Exporter) → exporter_place network device exporter ≡ Some p
      → slice_get (net_of network).exporters p ≡ Some e → slice_get xs index ≡ Some e
  alone p e there at =
      let one : index ≡ p = let all : Some index ≡ Some p = sym some ∙ is
      ∙ ap (λ (w : NetworkDocument). exporter_place w device exporter) same ∙ there in cc in
      ap (slice_get xs) one ∙ ap (λ (ys : List Exporter). slice_get ys p)
      (are ∙ ap (λ (w : NetworkDocument). (net_of w).exporters) same) ∙ at

  none_there : length xs ≤ index → HasNoDestination network device exporter destination
  none_there le p e there at = let none : None ≡ Some e = sym (slice_get_past xs index le) ∙ alone p e there at in
      absurd (cc)

  none_named : (named : Exporter) (ds : List (Option ℕ)) → index < length xs → named ≡ get_or xs index named → ds
      ≡ named.destinations → None ≡ entry_numbered ds destination → HasNoDestination network device exporter destination
  none_named named ds lt here of none p e there at =
      let all : Some named ≡ Some e = ap Some here ∙ sym (slice_get-get_or xs index named lt) ∙ alone p e there at in
      let one : named ≡ e = cc in
      subst (λ (x : Exporter). entry_numbered x.destinations destination ≡ None) one
      (ap (λ (ys : List (Option ℕ)). entry_numbered ys destination) (sym of) ∙ sym none)

pub returns-in_default-get-clause-err : goal.returns-in_default-get-clause-err
returns-in_default-get-clause-err c =
    let own = c.self-inside.inside.0.1.0.now in
    let same : own ≡ c.args.self.now.network = ap (λ n. n.plan.now) c.self-inside.view_is
    ∙ ap (λ (r : RunningNetwork). r.network) c.self.view_is in
    inr (
      refl,
      none_there c.args.self.now.network own same c.args.device c.args.exporter c.args.destination
          c.in-Some.index c.in-Ok.index c.in-Ok.ensures c.in-Some.is c.exporters.result.now
          (c.exporters.ensures ∙ ap (λ (n : Net). n.exporters) c.net.ensures.value) c.in_default-get.ensures.lookup.3,
    )

pub returns-in_default-entry_numbered-clause-err : goal.returns-in_default-entry_numbered-clause-err
returns-in_default-entry_numbered-clause-err c =
    let own = c.self-inside.inside.0.1.0.now in
    let same : own ≡ c.args.self.now.network = ap (λ n. n.plan.now) c.self-inside.view_is
    ∙ ap (λ (r : RunningNetwork). r.network) c.self.view_is in
    let here = c.in-Some-get.ensures.lookup.3 in
    let named = c.in-Some-get.named.now in
    inr (
      refl,
      none_named c.args.self.now.network own same c.args.device c.args.exporter c.args.destination
          c.in-Some.index c.in-Ok.index c.in-Ok.ensures c.in-Some.is c.exporters.result.now
          (c.exporters.ensures ∙ ap (λ (n : Net). n.exporters) c.net.ensures.value) named c.destinations.result.now
          here.0
          (here.1 named) c.destinations.ensures c.in_default-entry_numbered.ensures,
    )

pub returns-clause-ok : goal.returns-clause-ok
returns-clause-ok c =
    let network = c.args.self.now.network in
    let own = c.self-inside.inside.0.1.0.now in
    let same : own ≡ network = ap (λ n. n.plan.now) c.self-inside.view_is
    ∙ ap (λ (r : RunningNetwork). r.network) c.self.view_is in
    let here = c.in-Some-get.ensures.lookup.3 in
    let named = c.in-Some-get.named.now in
    record {
      place = c.in-Some.index;
      there = sym (c.in-Ok.ensures ∙ ap (λ (w : NetworkDocument). exporter_place w c.args.device c.args.exporter) same)
          ∙ c.in-Some.is;
      names = named;
      exporter_is = found_in c.exporters.result.now (net_of network).exporters c.in-Some.index named
          (c.exporters.ensures ∙ ap (λ (n : Net). n.exporters) c.net.ensures.value
          ∙ ap (λ (w : NetworkDocument). (net_of w).exporters) same) here.0 (here.1 named);
      destination_there = λ none.
          let some : Some c.in-Some-entry_numbered._destination.now ≡ None =
          c.in-Some-entry_numbered.ensures ∙ ap (λ (ds : List (Option ℕ)). entry_numbered ds c.args.destination)
          c.destinations.ensures ∙ none in
          absurd (cc);
      done_is = search rules;
    }
