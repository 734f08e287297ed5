-- What a collecting process and its aggregations send goes only to processes that it feeds.
use Rattle.std.proofs.Common.{◌≡◌, ℕ, zero, suc, Bool, true, false, cond, List, [], ◌∷◌, ◌++◌, Option, Some, None, refl, ap, ◌∙◌, slice_get}
use Rattle.std.specs.List.{AllByRecursion, list_any}
use Rattle.std.proofs.lemmas.Bool.{or_left, or_right, eq-eqb}
use Rattle.fx_tables.specs.Network.{Net, Exporter, AggregationEntry, Process, aggregations_of, at_places, before, exporters_of, named_by}
use Rattle.fx_machine.specs.Sends.{links_of}
use Rattle.fx_ranks.specs.Feeding.{feeds_by, is_place, lead_to, leads_to}
use Rattle.fx_runs.specs.Destinations.{number_in_use, link_of, link_numbered, links_of_exporter, used_by, links_used}
use Rattle.fx_net.specs.Arriving.{exporters_named}
use Rattle.fx_conform.proofs.PacketsCross.{all_join}

pub all_more : {A : Type 0} (P Q : A → Type 0) (xs : List A) → ((x : A) → P x → Q x) → AllByRecursion P xs
    → AllByRecursion Q xs
all_more P Q [] f h = tt
all_more P Q (x ∷ xs) f h = (f x h.0, all_more P Q xs f h.1)

module _ (net : Net) where
  -- the link leads only to processes that pass
  abbrev pub LeadsOnlyTo : (ℕ → Bool) → ℕ → Type 0
  LeadsOnlyTo test link = (to : ℕ) → slice_get net.links link ≡ Some to → test to ≡ true

  abbrev AllLeadTo : (ℕ → Bool) → List ℕ → Type 0
  AllLeadTo test links = AllByRecursion (LeadsOnlyTo test) links

  to_more : (test more : ℕ → Bool) (links : List ℕ) → ((to : ℕ) → test to ≡ true → more to ≡ true)
      → AllLeadTo test links → AllLeadTo more links
  to_more test more links f h = all_more (LeadsOnlyTo test) (LeadsOnlyTo more) links
      (λ link led to at. f to (led to at)) h

  -- ---- destinations

  -- a destination leads to the process
  abbrev by_one_of : List (Option ℕ) → ℕ → Bool
  by_one_of destinations to = list_any (leads_to net to) destinations

  link_leads : (link to : ℕ) → slice_get net.links link ≡ Some to → leads_to net to (Some link) ≡ true
  link_leads link to at = ap (is_place to) at ∙ eq-eqb to to refl

  first_leads : (link : ℕ) (ds : List (Option ℕ)) → LeadsOnlyTo (by_one_of (Some link ∷ ds)) link
  first_leads link ds to at = or_left (leads_to net to (Some link)) (by_one_of ds to) (link_leads link to at)

  later_lead : (d : Option ℕ) (ds : List (Option ℕ)) (links : List ℕ) → AllLeadTo (by_one_of ds) links
      → AllLeadTo (by_one_of (d ∷ ds)) links
  later_lead d ds links h = to_more (by_one_of ds) (by_one_of (d ∷ ds)) links
      (λ to led. or_right (leads_to net to d) (by_one_of ds to) led) h

  all_lead : (ds : List (Option ℕ)) → AllLeadTo (by_one_of ds) (links_of ds)
  all_lead [] = tt
  all_lead (None ∷ ds) = later_lead None ds (links_of ds) (all_lead ds)
  all_lead (Some link ∷ ds) = (first_leads link ds, later_lead (Some link) ds (links_of ds) (all_lead ds))

  one_leads : (ds : List (Option ℕ)) (n : ℕ) → AllLeadTo (by_one_of ds) (link_of (slice_get ds n))
  one_leads [] n = tt
  one_leads (None ∷ ds) zero = tt
  one_leads (Some link ∷ ds) zero = (first_leads link ds, tt)
  one_leads (d ∷ ds) (suc n) = later_lead d ds (link_of (slice_get ds n)) (one_leads ds n)

  numbered_leads : (ds : List (Option ℕ)) (n : ℕ) → AllLeadTo (by_one_of ds) (link_numbered ds n)
  numbered_leads ds zero = tt
  numbered_leads ds (suc n) = one_leads ds n

  -- ---- exporting processes

  exporter_leads : (e : Exporter) (n : ℕ) → AllLeadTo (by_one_of e.destinations) (links_of_exporter e n)
  exporter_leads e n = by e.parallel where
    by : (b : Bool) → AllLeadTo (by_one_of e.destinations)
        (cond b (links_of e.destinations) (link_numbered e.destinations n))
    by true = all_lead e.destinations
    by false = numbered_leads e.destinations n

  exporters_lead : (chosen places : List ℕ)
      → AllLeadTo (λ to. lead_to net to (at_places net.exporters places)) (links_used net chosen places)
  exporters_lead chosen [] = tt
  exporters_lead chosen (place ∷ places) = by (exporters_lead chosen places) (slice_get net.exporters place) where
    n : ℕ
    n = number_in_use chosen place

    rest : List Exporter
    rest = at_places net.exporters places

    later : List ℕ
    later = links_used net chosen places

    by : AllLeadTo (λ to. lead_to net to rest) later → (o : Option Exporter)
        → AllLeadTo (λ to. lead_to net to (before o rest)) (used_by o n ++ later)
    by ih None = ih
    by ih (Some e) =
        let all : ℕ → Bool = λ to. lead_to net to (e ∷ rest) in
        all_join (LeadsOnlyTo all) (links_of_exporter e n) later
        (to_more (by_one_of e.destinations) all (links_of_exporter e n)
        (λ to led. or_left (by_one_of e.destinations to) (lead_to net to rest) led) (exporter_leads e n))
        (to_more (λ to. lead_to net to rest) all later
        (λ to led. or_right (by_one_of e.destinations to) (lead_to net to rest) led) ih)

  -- ---- collecting processes

  -- an aggregation leads to the process
  abbrev by_one_held : List AggregationEntry → ℕ → Bool
  by_one_held aggregations to = list_any (λ a. lead_to net to (exporters_of net (slice_get net.holders a.holder)))
      aggregations

  -- what leaves an aggregation goes only to these
  abbrev pub LeavesOnlyTo : (ℕ → Bool) → AggregationEntry → Type 0
  LeavesOnlyTo test a = (chosen : List ℕ)
      → AllByRecursion (LeadsOnlyTo test) (links_used net chosen (named_by (slice_get net.holders a.holder)))

  leaves_to_more : (test more : ℕ → Bool) (xs : List AggregationEntry) → ((to : ℕ) → test to ≡ true → more to ≡ true)
      → AllByRecursion (LeavesOnlyTo test) xs → AllByRecursion (LeavesOnlyTo more) xs
  leaves_to_more test more xs f h = all_more (LeavesOnlyTo test) (LeavesOnlyTo more) xs
      (λ a led chosen. to_more test more _ f (led chosen)) h

  held_lead : (xs : List AggregationEntry) → AllByRecursion (LeavesOnlyTo (by_one_held xs)) xs
  held_lead [] = tt
  held_lead (a ∷ xs) =
      let here : ℕ → Bool = λ to. lead_to net to (exporters_of net (slice_get net.holders a.holder)) in (
        λ chosen. to_more here (by_one_held (a ∷ xs)) _ (λ to led. or_left (here to) (by_one_held xs to) led)
            (exporters_lead chosen (named_by (slice_get net.holders a.holder))),
        leaves_to_more (by_one_held xs) (by_one_held (a ∷ xs)) xs (λ to led. or_right (here to) (by_one_held xs to) led)
            (held_lead xs),
      )

  -- what it sends itself
  pub sends_where_it_feeds : (o : Option Process) (chosen : List ℕ)
      → AllByRecursion (LeadsOnlyTo (λ to. feeds_by net to o)) (links_used net chosen (exporters_named o))
  sends_where_it_feeds None chosen = tt
  sends_where_it_feeds (Some p) chosen =
      to_more (λ to. lead_to net to (at_places net.exporters p.exporters)) (λ to. feeds_by net to (Some p))
      (links_used net chosen p.exporters)
      (λ to led. or_left (lead_to net to (at_places net.exporters p.exporters)) (by_one_held p.aggregations to) led)
      (exporters_lead chosen p.exporters)

  -- what leaves its aggregations
  pub leaves_where_it_feeds : (o : Option Process)
      → AllByRecursion (LeavesOnlyTo (λ to. feeds_by net to o)) (aggregations_of o)
  leaves_where_it_feeds None = tt
  leaves_where_it_feeds (Some p) =
      leaves_to_more (by_one_held p.aggregations) (λ to. feeds_by net to (Some p)) p.aggregations
      (λ to led. or_right (lead_to net to (at_places net.exporters p.exporters)) (by_one_held p.aggregations to) led)
      (held_lead p.aggregations)
