-- What is planned has its place; a record on its way takes its step in the machine.
use Rattle.std.proofs.Common.{◌≡◌, ℕ, suc, ◌<◌, true, false, cond, List, [], ◌∷◌, length, Option, Some, None, IfSome, Ok, refl, sym, ap, subst, slice_get}
use Rattle.std.specs.List.{AllByRecursion}
use Rattle.fx_elements.specs.Axes.{Fields}
use Rattle.fx_layout.specs.Keys.{Layout, Key, Fits, key_of}
use Rattle.fx_tables.specs.declared.packet.Packet.{Packet}
use Rattle.fx_tables.specs.declared.record.Record.{Record}
use Rattle.fx_tables.specs.declared.holder_name.HolderName.{HolderName}
use Rattle.fx_run_text.specs.declared.step.Step.TheVariants.{Expire, Arrive}
use Rattle.fx_tables.specs.Classes.{Class}
use Rattle.fx_tables.specs.Network.{Net, Exporter, AggregationEntry, Process, at_places, exporters_of, named_by, takes, holder_place}
use Rattle.fx_tables.specs.Ranks.{IsNetwork}
use Rattle.fx_machine.specs.States.{State}
use Rattle.fx_machine.specs.Steps.{after, one_packet}
use Rattle.fx_tables.specs.declared.observation.Occurrence.{Occurrence}
use Rattle.fx_leaf.specs.declared.verdict.Fate.{Fate}
use Rattle.fx_leaf.specs.Laws.{IsSized}
use Rattle.fx_leaf.specs.Tables.{Numbering, Numbers, number_of_layout}
use Rattle.fx_leaf.proofs.FateLaws.{Every, every_append}
use Rattle.fx_steps.specs.declared.pending.Pending.{Pending}
use Rattle.fx_steps.specs.declared.pending.Pending.TheVariants.{AtHolder, OnLink}
use Rattle.fx_steps.specs.Building.{with_item, with_items, with_tallies}
use Rattle.fx_steps.specs.CostTables.{CostTable, destination_costs, all_destinations_costs, send_costs, sent_costs, holder_costs, all_taken_costs, occurrence_costs}
use Rattle.fx_steps.specs.Planning.{pending_on_links, sent_pending, all_taken_pending, handled_pending, fate_behind_tally, occurrence_pending, arrival_pending, layout_in, step_pending, step_choices, step_keys, item_of, pending_items, IsThere, Steps}
use Rattle.fx_steps.specs.Spread.{SentRecord, shares, records_to_destination, records_to_all, records_to_one, choice_of, records_by_exporter}
use Rattle.fx_tables.specs.Runnable.{IsHolder}
use Rattle.fx_steps.proofs.WholeNetworks.{IsWhole, HasLinks, HasHolders}
use Rattle.fx_steps.proofs.FilledTables.{all_at, all_at_places}
use Rattle.fx_steps.proofs.RecordsSpread.{held_leaves, carried_arrives}
use Rattle.fx_steps.proofs.EntriesTell.{own_number}

module _ (table : CostTable) (net : Net) (n : Numbering) where
  abbrev LinkThere : SentRecord → Type 0
  LinkThere x = x.link < length net.links

  abbrev InRange : Option ℕ → Type 0
  InRange d = IfSome d (λ link. link < length net.links)

  module _ (number : ℕ) where
    on_there : (d : Option ℕ) (f : Fate) → InRange d → Every LinkThere (records_to_destination d f)
    on_there None f h = tt
    on_there (Some link) f h = (h, tt)

    to_there : (ds : List (Option ℕ)) (f : Fate) → AllByRecursion InRange ds
        → Every LinkThere (records_to_all table net number ds f)
    to_there [] f all = tt
    to_there (d ∷ ds) f all =
        let p = shares (destination_costs table net number d) (all_destinations_costs table net number ds) f in
        every_append LinkThere (records_to_destination d p.0) (records_to_all table net number ds p.1)
        (on_there d p.0 all.0) (to_there ds p.1 all.1)

    chosen_there : (o : Option (Option ℕ)) (f : Fate) → ((d : Option ℕ) → o ≡ Some d → InRange d)
        → Every LinkThere (records_to_one o f)
    chosen_there None f h = tt
    chosen_there (Some d) f h = on_there d f (h d refl)

    by_there : (e : Exporter) (f : Fate) → AllByRecursion InRange e.destinations
        → Every LinkThere (records_by_exporter table net number e f)
    by_there e f all =
        let k = choice_of table net number e.destinations f in
        elim e.parallel as (λ b. Every LinkThere
        (cond b (records_to_all table net number e.destinations f) (records_to_one (slice_get e.destinations k) f))) [
          | true ↦ to_there e.destinations f all
          | false ↦ chosen_there (slice_get e.destinations k) f (λ d h. all_at InRange e.destinations k d all h)
        ]

    module _ (layout : Layout) (is : slice_get n.layouts number ≡ Some layout) (fits : Fits layout) where
      links_there : (xs : List SentRecord) → Every LinkThere xs → Every (IsThere net n) (pending_on_links number xs)
      links_there [] h = tt
      links_there (x ∷ xs) h = ((h.0, (layout, is, fits)), links_there xs h.1)

      pub sends_there : (es : List Exporter) (f : Fate) → AllByRecursion (HasLinks net) es
          → Every (IsThere net n) (sent_pending table net number es f)
      sends_there [] f all = tt
      sends_there (e ∷ es) f all =
          let p = shares (send_costs table net number e) (sent_costs table net number es) f in
          every_append (IsThere net n) (pending_on_links number (records_by_exporter table net number e p.0))
          (sent_pending table net number es p.1) (links_there (records_by_exporter table net number e p.0)
          (by_there e p.0 all.0)) (sends_there es p.1 all.1)

  takings_there : (key : Key) (as' : List AggregationEntry) (f : Fate)
      → AllByRecursion (λ (a : AggregationEntry). IsHolder net a.holder) as'
      → Every (IsThere net n) (all_taken_pending table net n key as' f)
  takings_there key [] f all = tt
  takings_there key (a ∷ as') f all =
      let p = shares (holder_costs table net n a.holder) (all_taken_costs table net n key as') f in
      elim (takes net key a) as (λ b. Every (IsThere net n)
      (cond b (AtHolder a.holder p.0 ∷ all_taken_pending table net n key as' p.1)
      (all_taken_pending table net n key as' f))) [
        | true ↦ (all.0, takings_there key as' p.1 all.1)
        | false ↦ takings_there key as' f all.1
      ]

  pub meets_there : (os : List Occurrence) (f : Fate) → Every (λ (o : Occurrence). IsHolder net o.holder) os
      → Every (IsThere net n) (occurrence_pending table net n os f)
  meets_there [] f all = tt
  meets_there (o ∷ os) f all = (
    all.0,
    meets_there os
        (shares (holder_costs table net n o.holder) (occurrence_costs table net n os) f).1 all.1,
  )

  -- ---- what comes of a record on its way

  module _ (fields : Fields) (network : IsNetwork net) (numbers : Numbers net n) (whole : IsWhole net) where
    links_at : (places : List ℕ) → AllByRecursion (HasLinks net) (at_places net.exporters places)
    links_at places = all_at_places (HasLinks net) net.exporters places whole.links

    handles_there : (number : ℕ) (layout : Layout) → slice_get n.layouts number ≡ Some layout → Fits layout
        → (o : Option Process) (f : Fate) → ((p : Process) → o ≡ Some p → HasHolders net p)
        → Every (IsThere net n) (handled_pending table net n fields number layout o f)
    handles_there number layout is fits None f h = tt
    handles_there number layout is fits (Some p) f h =
        let key = key_of layout fields in
        let es = at_places net.exporters p.exporters in
        let q = shares (sent_costs table net number es) (all_taken_costs table net n key p.aggregations) f in
        every_append (IsThere net n) (sent_pending table net number es q.0)
        (all_taken_pending table net n key p.aggregations q.1)
        (sends_there number layout is fits es q.0 (links_at p.exporters))
        (takings_there key p.aggregations q.1 (h p refl))

    arrives_there : (number : ℕ) (layout : Layout) → slice_get n.layouts number ≡ Some layout → Fits layout
        → (o : Option ℕ) (f : Fate) → Every (IsThere net n) (arrival_pending table net n fields number layout o f)
    arrives_there number layout is fits None f = tt
    arrives_there number layout is fits (Some q) f =
        handles_there number layout is fits (slice_get net.processes q)
        (fate_behind_tally table net n fields q number layout f)
        (λ p e. all_at (HasHolders net) net.processes q p whole.aggregations e)

    pub planned_there : (x : Pending) → IsThere net n x → Every (IsThere net n) (step_pending table net n fields x)
    planned_there (AtHolder holder f) is =
        sends_there (number_of_layout n holder) _ (own_number net n fields network numbers table holder is.there)
        (network.fits holder) (exporters_of net (slice_get net.holders holder)) f
        (links_at (named_by (slice_get net.holders holder)))
    planned_there (OnLink link number f) is =
        let same : is.1.0 ≡ layout_in (slice_get n.layouts number) = sym (ap layout_in is.1.1) in
        subst (λ (l : Layout). Every (IsThere net n)
        (arrival_pending table net n fields number l (slice_get net.links link) f)) same
        (arrives_there number is.1.0 is.1.1 is.1.2 (slice_get net.links link) f)

-- ---- in the machine

module _ (table : CostTable) (net : Net) (n : Numbering) (classes : List Class) (p : Packet) (network : IsNetwork net)
  where
    pub leaves : (holder : ℕ) (f : Fate) (name : HolderName) → holder_place net name ≡ Some holder → holder
        < length net.holders → Steps table net n p.fields (AtHolder holder f) → (s : State) → IsSized net s
        → (rs : List Record) → slice_get s.held holder ≡ Some rs
        → after net classes (p ∷ []) (Expire name (suc (length rs))
        (step_choices table net n p.fields (AtHolder holder f)))
        (with_item (one_packet p) (item_of net n p.fields (AtHolder holder f)) s)
        ≡ Ok (with_items (one_packet p) (pending_items net n p.fields
        (step_pending table net n p.fields (AtHolder holder f)))
        (with_tallies net (one_packet p) (step_keys net n p.fields (AtHolder holder f)) s))
    leaves holder f name named lt x s z rs at =
        held_leaves net classes p network holder (record { name = name; named = named; there = lt }) _ _ _ _ s rs
        x.spreads z at

    pub comes_in : (link number : ℕ) (f : Fate) → Steps table net n p.fields (OnLink link number f) → (s : State)
        → IsSized net s → (rs : List Record) → slice_get s.carried link ≡ Some rs
        → after net classes (p ∷ []) (Arrive (suc link) (suc (length rs))
        (step_choices table net n p.fields (OnLink link number f)))
        (with_item (one_packet p) (item_of net n p.fields (OnLink link number f)) s)
        ≡ Ok (with_items (one_packet p) (pending_items net n p.fields
        (step_pending table net n p.fields (OnLink link number f)))
        (with_tallies net (one_packet p) (step_keys net n p.fields (OnLink link number f)) s))
    comes_in link number f x s z rs at = carried_arrives net classes p network link _ _ _ _ s rs x.spreads z at

pub all_of_every : {A : Type 0} (P : A → Type 0) (xs : List A) → Every P xs → AllByRecursion P xs
all_of_every P [] h = tt
all_of_every P (x ∷ xs) h = (h.0, all_of_every P xs h.1)
