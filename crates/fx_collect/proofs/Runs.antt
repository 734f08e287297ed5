-- The totals of a run are a table under the report's layout.
use Rattle.std.proofs.Common.{◌≡◌, ℕ, ◌+◌, true, false, cond, List, [], ◌∷◌, Option, Some, None, Ok, Err, refl, ap, subst, slice_get, slice_set, remove}
use Rattle.std.proofs.lemmas.List.{length-map}
use Rattle.fx_base.specs.declared.counts.Counts.{Counts}
use Rattle.fx_layout.specs.Keys.{Key, IsLayout, refines, project, bits_on}
use Rattle.fx_tables.specs.declared.record.Record.{Record}
use Rattle.fx_tables.specs.declared.packet.Packet.{Packet}
use Rattle.fx_run_text.specs.declared.step.Step.{Step}
use Rattle.fx_run_text.specs.declared.step.Step.TheVariants.{Cross, Expire, Arrive}
use Rattle.fx_tables.specs.Network.{Net, Exporter, holder_place}
use Rattle.fx_base.specs.Entries.{entry_numbered}
use Rattle.fx_tables.specs.Classes.{Class, path}
use Rattle.fx_machine.specs.States.{State, opening, wrapped_state, after_tally, sent_to, sent_to_all, add_at, without}
use Rattle.fx_machine.specs.Acts.{Choices, Act, Tally, Send, Hold, Made, Outcome, sent_to_chosen, send_by_choice, taken_in, with_held, hold_in, hold, act, act_all, all_acts, all_used}
use Rattle.fx_machine.specs.Steps.{one_packet, crossing_acts, acts_of_leaving, acts_of_arrival, place, link_place, after_cross, after_expire, expire_from, expire_at, after_arrive, arrive_from, arrive_at, after, then_run, run}
use Rattle.fx_collect.specs.Totals.{Totals, IsUnder, IsTable, totals_of, totals_in}
use Rattle.fx_collect.proofs.TotalsOfTotals.{table_added, restated}

module _ (net : Net) where
  Kept : State → Type 0
  Kept s = IsTable net.report_layout s.totals

  KeptAfter : Outcome → Type 0
  KeptAfter (Ok s) = Kept s
  KeptAfter (Err n) = Unit {0}

  KeptBy : Option Made → Type 0
  KeptBy (Some made) = Kept made.state
  KeptBy None = Unit {0}

  -- ---- acts

  tally_keeps : (key : Key) (counts : Counts) (s : State) → Kept s → Kept (after_tally net key counts s)
  unfolding Kept
  tally_keeps key counts s h =
      let layout = net.report_layout in
      let under : IsUnder layout (project key layout) =
      (refl, length-map layout (λ part. bits_on key part.axis part.bits)) in
      let yes : State = record s { totals = add_at s.totals (project key layout) counts } in
      let no : State = record s { unassigned = s.unassigned + 1 } in
      elim (refines key.layout layout) as (λ t. IsTable layout (cond t yes no).totals) [
        | true ↦ table_added layout s.totals (project key layout) counts under h
        | false ↦ h
      ]

  sent_keeps : (d : Option ℕ) (r : Record) (s : State) → Kept s → Kept (sent_to d r s)
  unfolding Kept
  sent_keeps None r s h = h
  sent_keeps (Some link) r s h = h

  all_sent_keep : (ds : List (Option ℕ)) (r : Record) (s : State) → Kept s → Kept (sent_to_all ds r s)
  all_sent_keep [] r s h = h
  all_sent_keep (d ∷ ds) r s h = all_sent_keep ds r (sent_to d r s) (sent_keeps d r s h)

  chosen_keeps : (o : Option (Option ℕ)) (r : Record) (s : State) (choices : Choices) → Kept s
      → KeptBy (sent_to_chosen o r s choices)
  unfolding KeptBy
  chosen_keeps None r s choices h = tt
  chosen_keeps (Some d) r s choices h = sent_keeps d r s h

  choice_keeps : (ds : List (Option ℕ)) (r : Record) (s : State) (choices : Choices) → Kept s
      → KeptBy (send_by_choice ds r s choices)
  unfolding KeptBy
  choice_keeps ds r s [] h = tt
  choice_keeps ds r s (None ∷ choices) h = tt
  choice_keeps ds r s (Some n ∷ choices) h = chosen_keeps (entry_numbered ds n) r s choices h

  with_held_keeps : (s : State) (holder : ℕ) (o : Option (List Record)) (choices : Choices) → Kept s
      → KeptBy (with_held s holder o choices)
  unfolding Kept KeptBy
  with_held_keeps s holder None choices h = tt
  with_held_keeps s holder (Some rs) choices h = h

  hold_in_keeps : (o : Option (List Record)) (holder : ℕ) (r : Record) (s : State) (choice : Option ℕ)
      (choices : Choices) → Kept s → KeptBy (hold_in o holder r s choice choices)
  unfolding KeptBy
  hold_in_keeps None holder r s choice choices h = tt
  hold_in_keeps (Some rs) holder r s choice choices h = with_held_keeps s holder (taken_in rs choice r) choices h

  hold_keeps : (holder : ℕ) (r : Record) (s : State) (choices : Choices) → Kept s → KeptBy (hold holder r s choices)
  unfolding KeptBy
  hold_keeps holder r s [] h = tt
  hold_keeps holder r s (choice ∷ choices) h = hold_in_keeps (slice_get s.held holder) holder r s choice choices h

  send_keeps : (counts : Counts) (e : Exporter) (key : Key) (s : State) (choices : Choices) → Kept s
      → KeptBy (act net counts (Send e key) s choices)
  unfolding KeptBy
  send_keeps counts e key s choices h =
      let r : Record = record { key = key; counts = counts } in
      elim e.parallel as (λ t. KeptBy (cond t
      (Some (record { state = sent_to_all e.destinations r s; choices = choices }))
      (send_by_choice e.destinations r s choices))) [
        | true ↦ all_sent_keep e.destinations r s h
        | false ↦ choice_keeps e.destinations r s choices h
      ]

  act_keeps : (counts : Counts) (a : Act) (s : State) (choices : Choices) → Kept s → KeptBy (act net counts a s choices)
  unfolding KeptBy
  act_keeps counts (Tally key) s choices h = tally_keeps key counts s h
  act_keeps counts (Send e key) s choices h = send_keeps counts e key s choices h
  act_keeps counts (Hold holder key) s choices h = hold_keeps holder (record { key = key; counts = counts }) s choices h

  all_used_keep : (choices : Choices) (s : State) → Kept s → KeptAfter (all_used choices s)
  unfolding KeptAfter
  all_used_keep [] s h = h
  all_used_keep (choice ∷ choices) s h = tt

  acts_keep : (counts : Counts) (acts : List Act) (made : Option Made) → KeptBy made
      → KeptAfter (act_all net counts acts made)
  unfolding KeptBy KeptAfter
  acts_keep counts [] None h = tt
  acts_keep counts (a ∷ acts) None h = tt
  acts_keep counts [] (Some made) h = all_used_keep made.choices made.state h
  acts_keep counts (a ∷ acts) (Some made) h =
      acts_keep counts acts (act net counts a made.state made.choices) (act_keeps counts a made.state made.choices h)

  all_acts_keep : (counts : Counts) (acts : List Act) (s : State) (choices : Choices) → Kept s
      → KeptAfter (all_acts net counts acts s choices)
  unfolding KeptBy
  all_acts_keep counts acts s choices h = acts_keep counts acts (Some (record { state = s; choices = choices })) h

  -- ---- steps

  cross_keeps : (classes : List Class) (p : Option Packet) (o : Option ℕ) (crossing : ℕ) (s : State) (choices : Choices)
      → Kept s → KeptAfter (after_cross net classes p o crossing s choices)
  unfolding Kept KeptAfter
  cross_keeps classes p None crossing s choices h = tt
  cross_keeps classes None (Some n) crossing s choices h = tt
  cross_keeps classes (Some p) (Some n) crossing s choices h =
      all_acts_keep (one_packet p) (crossing_acts net p.fields (entry_numbered (path classes p) crossing))
      (record s { coming = remove s.coming n }) choices h

  expire_keeps : (holder : ℕ) (rs : List Record) (number : ℕ) (o : Option Record) (s : State) (choices : Choices)
      → Kept s → KeptAfter (after_expire net holder rs number o s choices)
  unfolding Kept KeptAfter
  expire_keeps holder rs number None s choices h = tt
  expire_keeps holder rs number (Some r) s choices h =
      all_acts_keep r.counts (acts_of_leaving net holder r.key)
      (record s { held = slice_set s.held holder (without rs number) }) choices h

  expire_from_keeps : (holder : ℕ) (o : Option (List Record)) (number : ℕ) (s : State) (choices : Choices) → Kept s
      → KeptAfter (expire_from net holder o number s choices)
  unfolding KeptAfter
  expire_from_keeps holder None number s choices h = tt
  expire_from_keeps holder (Some rs) number s choices h =
      expire_keeps holder rs number (entry_numbered rs number) s choices h

  expire_at_keeps : (o : Option ℕ) (number : ℕ) (s : State) (choices : Choices) → Kept s
      → KeptAfter (expire_at net o number s choices)
  unfolding KeptAfter
  expire_at_keeps None number s choices h = tt
  expire_at_keeps (Some holder) number s choices h =
      expire_from_keeps holder (slice_get s.held holder) number s choices h

  arrive_keeps : (link : ℕ) (rs : List Record) (number : ℕ) (o : Option Record) (s : State) (choices : Choices) → Kept s
      → KeptAfter (after_arrive net link rs number o s choices)
  unfolding Kept KeptAfter
  arrive_keeps link rs number None s choices h = tt
  arrive_keeps link rs number (Some r) s choices h =
      all_acts_keep r.counts (acts_of_arrival net r.key (slice_get net.links link))
      (record s { carried = slice_set s.carried link (without rs number) }) choices h

  arrive_from_keeps : (link : ℕ) (o : Option (List Record)) (number : ℕ) (s : State) (choices : Choices) → Kept s
      → KeptAfter (arrive_from net link o number s choices)
  unfolding KeptAfter
  arrive_from_keeps link None number s choices h = tt
  arrive_from_keeps link (Some rs) number s choices h =
      arrive_keeps link rs number (entry_numbered rs number) s choices h

  arrive_at_keeps : (o : Option ℕ) (number : ℕ) (s : State) (choices : Choices) → Kept s
      → KeptAfter (arrive_at net o number s choices)
  unfolding KeptAfter
  arrive_at_keeps None number s choices h = tt
  arrive_at_keeps (Some link) number s choices h = arrive_from_keeps link (slice_get s.carried link) number s choices h

  step_keeps : (classes : List Class) (packets : List Packet) (step : Step) (s : State) → Kept s
      → KeptAfter (after net classes packets step s)
  step_keeps classes packets (Cross packet crossing choices) s h =
      cross_keeps classes (entry_numbered packets packet) (place s.coming packet crossing) crossing s choices h
  step_keeps classes packets (Expire holder number choices) s h =
      expire_at_keeps (holder_place net holder) number s choices h
  step_keeps classes packets (Arrive link number choices) s h = arrive_at_keeps (link_place link) number s choices h

  run_on : (classes : List Class) (packets : List Packet) (steps : List Step) (o : Outcome)
      → ((mid : State) → Kept mid → KeptAfter (run net classes packets steps mid)) → KeptAfter o
      → KeptAfter (then_run o (run net classes packets steps))
  unfolding KeptAfter
  run_on classes packets steps (Err n) rest h = tt
  run_on classes packets steps (Ok mid) rest h = rest mid h

  run_keeps : (classes : List Class) (packets : List Packet) (steps : List Step) (s : State) → Kept s
      → KeptAfter (run net classes packets steps s)
  unfolding KeptAfter
  run_keeps classes packets [] s h = h
  run_keeps classes packets (step ∷ steps) s h =
      run_on classes packets steps (after net classes packets step s) (λ mid k. run_keeps classes packets steps mid k)
      (step_keeps classes packets step s h)

  last_kept : (o : Outcome) (last : State) → o ≡ Ok last → KeptAfter o → IsTable net.report_layout last.totals
  unfolding Kept KeptAfter
  last_kept (Err n) last e h = absurd (cc)
  last_kept (Ok s) last e h =
      let same : s ≡ last = cc in
      subst (λ (x : State). IsTable net.report_layout x.totals) same h

  opened : (classes : List Class) (packets : List Packet) → Kept (opening net classes packets)
  unfolding Kept
  opened classes packets = record { under = tt; differ = tt }

  pub run_table : (classes : List Class) (packets : List Packet) (steps : List Step) (last : State)
      → run net classes packets steps (opening net classes packets) ≡ Ok last → IsTable net.report_layout last.totals
  run_table classes packets steps last e =
      last_kept (run net classes packets steps (opening net classes packets)) last e
      (run_keeps classes packets steps (opening net classes packets) (opened classes packets))

-- what is reported of a run's last state are its own totals
pub run_restated : (net : Net) (classes : List Class) (packets : List Packet) (steps : List Step) (last : State)
    → IsLayout net.report_layout → run net classes packets steps (opening net classes packets) ≡ Ok last
    → totals_of net.report_layout (wrapped_state last) ≡ totals_in net.report_layout (wrapped_state last)
run_restated net classes packets steps last l e =
    ap (λ (t : Totals). record t { unassigned = (wrapped_state last).unassigned })
    (restated net.report_layout last.totals l (run_table net classes packets steps last e))
