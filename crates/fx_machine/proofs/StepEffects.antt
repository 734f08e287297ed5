-- What a step does is what its acts come to.
use Rattle.std.proofs.Common.{◌≡◌, inl, inr, ℕ, Bool, true, false, List, [], ◌∷◌, ◌++◌, map, Option, Some, None, Ok, Err, is_some, refl, sym, ap, ap₂, ◌∙◌, slice_get, slice_set, remove, append-nil}
use Rattle.fx_base.specs.Entries.{entry_numbered}
use Rattle.fx_layout.specs.Keys.{Key}
use Rattle.fx_tables.specs.declared.packet.Packet.{Packet}
use Rattle.fx_tables.specs.declared.record.Record.{Record}
use Rattle.fx_tables.specs.declared.holding.Holding.{Holding}
use Rattle.fx_tables.specs.declared.holder_name.HolderName.{HolderName}
use Rattle.fx_tables.specs.Network.{Net, Exporter, entries, at_places, named_by, holder_place}
use Rattle.fx_tables.specs.Classes.{Class, path}
use Rattle.fx_run_text.specs.declared.step.Step.{Step}
use Rattle.fx_run_text.specs.declared.step.Step.TheVariants.{Cross, Expire, Arrive}
use Rattle.fx_machine.specs.declared.effects.Tally.{Tally}
use Rattle.fx_machine.specs.declared.effects.Tally.TheVariants.{Untallied}
use Rattle.fx_machine.specs.States.{State, Coming, without}
use Rattle.fx_machine.specs.Acts.{Choices, Act, Send, Outcome, all_acts}
use Rattle.fx_machine.specs.Sends.{Chosen, chosen_from}
use Rattle.fx_machine.specs.Holds.{hold_act, hold_all}
use Rattle.fx_machine.specs.Handling.{sends, handling_acts}
use Rattle.fx_machine.specs.Comings.{coming_of, has_mark_at}
use Rattle.fx_machine.specs.Steps.{one_packet, crossing_acts, place, after, after_cross, acts_of_leaving, acts_of_arrival, expire_at, expire_from, after_expire, link_place, arrive_at, arrive_from, after_arrive}
use Rattle.fx_machine.specs.Effects.{Effects, crossing_of, leaving_of, arrival_of, acts_at, choices_of, senders, takers, tally_among, effects_by, effects_of, tally_when, IsHandled, AreChosen, CannotBeChosen}
use Rattle.fx_machine.proofs.Crossings.{crossing_goes, crossing_none}
use Rattle.fx_machine.proofs.StepOutcomes.{held_out, arrived_out, summed, with_links, handled}
use Rattle.fx_machine.proofs.KeysHeld.{none_where_false, some_where_true}

-- ---- a crossing to come, by its mark

pub mark_is_place : (fs : List (List Bool)) (i j : ℕ) → has_mark_at fs i j ≡ is_some (place (coming_of 1 fs) i j)
mark_is_place fs i j = by_mark (has_mark_at fs i j) refl
  where
    by_mark : (b : Bool) → has_mark_at fs i j ≡ b → has_mark_at fs i j ≡ is_some (place (coming_of 1 fs) i j)
    by_mark true e = e ∙ ap (λ (o : Option ℕ). is_some o) (sym (crossing_goes fs i j e).1)
    by_mark false e = e ∙ ap (λ (o : Option ℕ). is_some o) (sym (crossing_none fs i j e))

-- ---- the acts of each step

pub crossing_handled : (net : Net) (classes : List Class) (packets : List Packet) (i j : ℕ) (choices : Choices)
    (s : State) (coming : List Coming) (p : Packet) (hs : List Holding) → coming ≡ s.coming → is_some (place coming i j)
    ≡ true → Some p ≡ entry_numbered packets i → map hold_act hs
    ≡ crossing_acts net p.fields (entry_numbered (path classes p) j)
    → IsHandled net classes packets (Cross i j choices) s Untallied [] hs
crossing_handled net classes packets i j choices s coming p hs same there found acts =
    let n = some_where_true (place coming i j) there in
    let at : place s.coming i j ≡ Some n.0 = ap (λ (cs : List Coming). place cs i j) (sym same) ∙ n.1 in
    let from : State = record s { coming = remove s.coming n.0 } in
    record {
      key = record { layout = []; values = [] };
      counts = one_packet p;
      tallies = false;
      from = from;
      acts = ap (λ (o : Option Packet). crossing_of net classes o j) (sym found) ∙ sym acts;
      tally_is = refl;
      made = ap₂ (λ (o : Option Packet) (at' : Option ℕ). after_cross net classes o at' j s choices) (sym found) at
          ∙ ap (λ (list : List Act). all_acts net (one_packet p) list from choices) (sym acts);
      held = inr refl;
    }

pub leaving_handled : (net : Net) (classes : List Class) (packets : List Packet) (name : HolderName) (number : ℕ)
    (choices : Choices) (s : State) (held : List (List Record)) (at : ℕ) (rs : List Record) (r : Record)
    (places : List ℕ) → held ≡ s.held → Some at ≡ holder_place net name → Some rs ≡ slice_get held at → Some r
    ≡ entry_numbered rs number → places ≡ named_by (slice_get net.holders at)
    → IsHandled net classes packets (Expire name number choices) s Untallied places []
leaving_handled net classes packets name number choices s held at rs r places same named there found named_is =
    let there' : slice_get s.held at ≡ Some rs = ap (λ (rss : List (List Record)). slice_get rss at) (sym same)
    ∙ sym there in
    let from : State = record s { held = slice_set s.held at (without rs number) } in
    let own : acts_of_leaving net at r.key ≡ handling_acts net r.key false places [] =
    ap (λ (ps : List ℕ). sends net r.key ps) (sym named_is) ∙ sym (append-nil (sends net r.key places)) in
    record {
      key = r.key;
      counts = r.counts;
      tallies = false;
      from = from;
      acts = ap (λ (o : Option ℕ). acts_at (leaving_of net) s.held o number) (sym named)
          ∙ ap (λ (o : Option (List Record)). leaving_of net at (entry_numbered (entries o) number)) there'
          ∙ ap (leaving_of net at) (sym found) ∙ own;
      tally_is = refl;
      made = ap (λ (o : Option ℕ). expire_at net o number s choices) (sym named)
          ∙ ap (λ (o : Option (List Record)). expire_from net at o number s choices) there'
          ∙ ap (λ (o : Option Record). after_expire net at rs number o s choices) (sym found)
          ∙ ap (λ (list : List Act). all_acts net r.counts list from choices) own;
      held = inl refl;
    }

pub arrival_handled : (net : Net) (classes : List Class) (packets : List Packet) (link number : ℕ) (choices : Choices)
    (s : State) (carried : List (List Record)) (at : ℕ) (rs : List Record) (r : Record) (tally : Tally) (t : Bool)
    (places : List ℕ) (hs : List Holding) → carried ≡ s.carried → Some at ≡ link_place link → Some rs
    ≡ slice_get carried at → Some r ≡ entry_numbered rs number → acts_of_arrival net r.key (slice_get net.links at)
    ≡ handling_acts net r.key t places hs → tally ≡ tally_when net t r.key
    → IsHandled net classes packets (Arrive link number choices) s tally places hs
arrival_handled net classes packets link number choices s carried at rs r tally t places hs same named there found own
    tally_is =
    let there' : slice_get s.carried at ≡ Some rs = ap (λ (rss : List (List Record)). slice_get rss at) (sym same)
    ∙ sym there in
    let from : State = record s { carried = slice_set s.carried at (without rs number) } in
    record {
      key = r.key;
      counts = r.counts;
      tallies = t;
      from = from;
      acts = ap (λ (o : Option ℕ). acts_at (arrival_of net) s.carried o number) (sym named)
          ∙ ap (λ (o : Option (List Record)). arrival_of net at (entry_numbered (entries o) number)) there'
          ∙ ap (arrival_of net at) (sym found) ∙ own;
      tally_is = tally_is;
      made = ap (λ (o : Option ℕ). arrive_at net o number s choices) (sym named)
          ∙ ap (λ (o : Option (List Record)). arrive_from net at o number s choices) there'
          ∙ ap (λ (o : Option Record). after_arrive net at rs number o s choices) (sym found)
          ∙ ap (λ (list : List Act). all_acts net r.counts list from choices) own;
      held = inr refl;
    }

-- ---- what is read off acts

module _ (net : Net) (key : Key) where
  held_senders : (hs : List Holding) → senders (map hold_act hs) ≡ []
  held_senders [] = refl
  held_senders (h ∷ hs) = held_senders hs

  sent_senders : (es : List Exporter) (hs : List Holding) → senders (map (λ e. Send e key) es ++ map hold_act hs) ≡ es
  sent_senders [] hs = held_senders hs
  sent_senders (e ∷ es) hs = ap (λ (xs : List Exporter). e ∷ xs) (sent_senders es hs)

  senders_are : (t : Bool) (places : List ℕ) (hs : List Holding) → senders (handling_acts net key t places hs)
      ≡ at_places net.exporters places
  senders_are true places hs = sent_senders (at_places net.exporters places) hs
  senders_are false places hs = sent_senders (at_places net.exporters places) hs

  held_takers : (hs : List Holding) → takers (map hold_act hs) ≡ map (λ h. h.holder) hs
  held_takers [] = refl
  held_takers (h ∷ hs) = ap (λ (xs : List ℕ). h.holder ∷ xs) (held_takers hs)

  sent_takers : (es : List Exporter) (hs : List Holding) → takers (map (λ e. Send e key) es ++ map hold_act hs)
      ≡ map (λ h. h.holder) hs
  sent_takers [] hs = held_takers hs
  sent_takers (e ∷ es) hs = sent_takers es hs

  takers_are : (t : Bool) (places : List ℕ) (hs : List Holding) → takers (handling_acts net key t places hs)
      ≡ map (λ h. h.holder) hs
  takers_are true places hs = sent_takers (at_places net.exporters places) hs
  takers_are false places hs = sent_takers (at_places net.exporters places) hs

  held_untallied : (hs : List Holding) → tally_among net (map hold_act hs) ≡ Untallied
  held_untallied [] = refl
  held_untallied (h ∷ hs) = held_untallied hs

  sent_untallied : (es : List Exporter) (hs : List Holding)
      → tally_among net (map (λ e. Send e key) es ++ map hold_act hs) ≡ Untallied
  sent_untallied [] hs = held_untallied hs
  sent_untallied (e ∷ es) hs = sent_untallied es hs

  tally_is : (t : Bool) (places : List ℕ) (hs : List Holding) → tally_among net (handling_acts net key t places hs)
      ≡ tally_when net t key
  tally_is true places hs = refl
  tally_is false places hs = sent_untallied (at_places net.exporters places) hs

-- ---- a step by its choices

module _ (net : Net) (classes : List Class) (packets : List Packet) (step : Step) (s : State) (tally : Tally)
    (places : List ℕ) (hs : List Holding) (h : IsHandled net classes packets step s tally places hs) where
  abbrev outcome : Outcome
  outcome = after net classes packets step s

  abbrev choices : Choices
  choices = choices_of step

  abbrev own : Record
  own = record { key = h.key; counts = h.counts }

  abbrev next : State
  next = summed net h.tallies h.key h.counts h.from

  outcome_is : (o : Option Chosen) → chosen_from [] (at_places net.exporters places) choices ≡ o → outcome
      ≡ arrived_out net next own hs o
  outcome_is o chosen = h.made ∙ handled net h.from own hs choices h.tallies places
      ∙ ap (arrived_out net next own hs) chosen

  -- where nothing is taken in, it doesn't matter what is held
  nothing_taken : (rest : Choices) (a b : List (List Record)) → is_some (hold_all h.counts [] a rest)
      ≡ is_some (hold_all h.counts [] b rest)
  nothing_taken [] a b = refl
  nothing_taken (c ∷ rest) a b = refl

  same_taken : (rest : Choices) → is_some (hold_all h.counts hs h.from.held rest)
      ≡ is_some (hold_all h.counts hs s.held rest)
  same_taken rest = elim h.held [
    | inl none ↦ ap (λ (xs : List Holding). is_some (hold_all h.counts xs h.from.held rest)) none
        ∙ nothing_taken rest h.from.held s.held
        ∙ ap (λ (xs : List Holding). is_some (hold_all h.counts xs s.held rest)) (sym none)
    | inr same ↦ ap (λ (x : List (List Record)). is_some (hold_all h.counts hs x rest)) same
  ]

  pub has_effects : (e : Effects) → AreChosen net s.held tally places hs choices e → ((n : State) × (outcome ≡ Ok n))
      × (effects_of net classes packets step s ≡ Some e)
  has_effects e c =
      let taken = some_where_true (hold_all h.counts hs h.from.held c.rest) (same_taken c.rest ∙ c.can h.counts) in
      let sent : State = with_links next own e.links in
      let acts = handling_acts net h.key h.tallies places hs in
      let tally' : tally_among net acts ≡ e.tally = tally_is net h.key h.tallies places hs ∙ sym h.tally_is
      ∙ sym c.tally_is in
      let chosen : chosen_from [] (senders acts) choices ≡ Some (record { links = e.links; rest = c.rest }) =
      ap (λ (es : List Exporter). chosen_from [] es choices) (senders_are net h.key h.tallies places hs) ∙ c.links
      in
      let effects : effects_by (tally_among net acts) (takers acts) (chosen_from [] (senders acts) choices) ≡ Some e =
      ap₂ (λ (t : Tally) (xs : List ℕ). effects_by t xs (chosen_from [] (senders acts) choices)) tally'
      (takers_are net h.key h.tallies places hs) ∙ ap (effects_by e.tally (map (λ x. x.holder) hs)) chosen
      ∙ ap (λ xs. Some (record { links = e.links; taken = xs; tally = e.tally })) (sym c.taken) in (
        (
          record sent { held = taken.0 },
          outcome_is (Some (record { links = e.links; rest = c.rest })) c.links
              ∙ ap (held_out sent) taken.1,
        ),
        ap (λ (list : List Act). effects_by (tally_among net list) (takers list)
            (chosen_from [] (senders list) choices)) h.acts ∙ effects,
      )

  pub has_none : CannotBeChosen net s.held places hs choices → outcome ≡ Err 852
  has_none wrong = elim wrong [
    | inl none ↦ outcome_is None none
    | inr c ↦ (
        let refused : hold_all h.counts hs h.from.held c.0.rest ≡ None =
        none_where_false (hold_all h.counts hs h.from.held c.0.rest)
        (same_taken c.0.rest ∙ ap (λ (o : Option (List (List Record))). is_some o) (c.2 h.counts)) in
        outcome_is (Some c.0) c.1 ∙ ap (held_out (with_links next own c.0.links)) refused
        )
  ]
