-- What a step comes to: records sent, records taken in.
use Rattle.std.proofs.Common.{◌≡◌, ℕ, zero, suc, ◌+◌, ◌%◌, ◌^◌, ◌<◌, ◌≤◌, Bool, true, false, cond, List, [], ◌∷◌, ◌++◌, length, map, drop, option_and_then, Option, Some, None, Ok, Err, refl, sym, ap, ap₂, ◌∙◌, arith, slice_get, slice_set, remove, le_of_suc-le-suc, append-nil}
use Rattle.fx_base.specs.declared.counts.Counts.{Counts}
use Rattle.fx_layout.specs.Keys.{Key, refines, project}
use Rattle.fx_tables.specs.declared.packet.Packet.{Packet}
use Rattle.fx_tables.specs.declared.record.Record.{Record}
use Rattle.fx_tables.specs.declared.holding.Holding.{Holding}
use Rattle.fx_tables.specs.declared.holder_name.HolderName.{HolderName}
use Rattle.fx_tables.specs.Network.{Net, Exporter, entries, at_places, named_by, holder_place}
use Rattle.fx_base.specs.Entries.{entry_numbered}
use Rattle.fx_tables.specs.Classes.{Class, path}
use Rattle.fx_machine.specs.States.{State, Coming, after_tally, sent_to, sent_to_all, put_last, without, wrapped_state, add_at}
use Rattle.fx_machine.specs.Acts.{Choices, Act, Tally, Send, Made, Outcome, act_all, all_used, sent_to_chosen, send_by_choice, taken_in, with_held, hold_in}
use Rattle.fx_machine.specs.Steps.{one_packet, crossing_acts, place, after_cross, after_expire, expire_from, expire_at, acts_of_arrival, after_arrive, arrive_from, arrive_at, link_place}
use Rattle.fx_machine.specs.Sends.{put_all, link_list, links_of, Chosen, next_destination, chosen_from}
use Rattle.fx_machine.specs.Holds.{hold_act, take_in_at, put_in, hold_all}
use Rattle.fx_machine.specs.Handling.{sends, handling_acts}
use Rattle.fx_machine.specs.Comings.{coming_of, has_mark_at, without_mark}
use Rattle.fx_machine.specs.Tallies.{totals_when, unassigned_when}
use Rattle.fx_machine.specs.Stores.{taken_out}
use Rattle.fx_machine.proofs.Crossings.{crossing_goes, crossing_none}

-- ---- records sent

abbrev pub with_links : State → Record → List ℕ → State
with_links s r links = record s { carried = put_all links r s.carried }

put_all_append : (xs ys : List ℕ) (r : Record) (rss : List (List Record)) → put_all ys r (put_all xs r rss)
    ≡ put_all (xs ++ ys) r rss
put_all_append [] ys r rss = refl
put_all_append (x ∷ xs) ys r rss = put_all_append xs ys r (put_last rss x r)

sent_is : (d : Option ℕ) (r : Record) (s : State) → sent_to d r s ≡ with_links s r (link_list d)
sent_is None r s = refl
sent_is (Some link) r s = refl

sent_all_is : (ds : List (Option ℕ)) (r : Record) (s : State) → sent_to_all ds r s ≡ with_links s r (links_of ds)
sent_all_is [] r s = refl
sent_all_is (d ∷ ds) r s =
    sent_all_is ds r (sent_to d r s) ∙ ap (λ t. with_links t r (links_of ds)) (sent_is d r s)
    ∙ ap (λ (rss : List (List Record)). record s { carried = rss })
    (put_all_append (link_list d) (links_of ds) r s.carried)

more_links : (s : State) (r : Record) (xs ys : List ℕ) → with_links (with_links s r xs) r ys ≡ with_links s r (xs ++ ys)
more_links s r xs ys = ap (λ (rss : List (List Record)). record s { carried = rss }) (put_all_append xs ys r s.carried)

module _ (net : Net) (counts : Counts) (key : Key) (s : State) (then : List Act) where
  abbrev r : Record
  r = record { key = key; counts = counts }

  -- the acts that come after those of the exporting processes
  abbrev sent : Option Chosen → Outcome
  sent None = Err 852
  sent (Some c) = act_all net counts then (Some (record { state = with_links s r c.links; choices = c.rest }))

  abbrev acts : List Exporter → List Act
  acts es = map (λ e. Send e key) es ++ then

  abbrev here : List ℕ → Choices → Option Made
  here links cs = Some (record { state = with_links s r links; choices = cs })

  refused : (list : List Act) → act_all net counts list None ≡ Err 852
  refused [] = refl
  refused (a ∷ rest) = refl

  on_choice : (es : List Exporter) (links : List ℕ) (cs : Choices) (o : Option (Option ℕ))
      → ((more : List ℕ) → act_all net counts (acts es) (here more cs) ≡ sent (chosen_from more es cs))
      → act_all net counts (acts es) (sent_to_chosen o r (with_links s r links) cs)
      ≡ sent (option_and_then (λ d. chosen_from (links ++ link_list d) es cs) o)
  on_choice es links cs None rest = refused (acts es)
  on_choice es links cs (Some d) rest =
      ap (λ t. act_all net counts (acts es) (Some (record { state = t; choices = cs })))
      (sent_is d r (with_links s r links) ∙ more_links s r links (link_list d)) ∙ rest (links ++ link_list d)

  by_choice : (e : Exporter) (es : List Exporter) (links : List ℕ) (cs : Choices)
      → ((more : List ℕ) (left : Choices) → act_all net counts (acts es) (here more left)
      ≡ sent (chosen_from more es left)) → act_all net counts (acts es)
      (send_by_choice e.destinations r (with_links s r links) cs)
      ≡ sent (option_and_then (λ d. chosen_from (links ++ link_list d) es (drop 1 cs))
      (next_destination e.destinations cs))
  by_choice e es links [] rest = refused (acts es)
  by_choice e es links (None ∷ cs) rest = refused (acts es)
  by_choice e es links (Some n ∷ cs) rest =
      on_choice es links cs (entry_numbered e.destinations n) (λ more. rest more cs)

  sends_are : (es : List Exporter) (links : List ℕ) (cs : Choices) → act_all net counts (acts es) (here links cs)
      ≡ sent (chosen_from links es cs)
  sends_are [] links cs = refl
  sends_are (e ∷ es) links cs =
      elim e.parallel as (λ b. act_all net counts (acts es)
      (cond b (Some (record { state = sent_to_all e.destinations r (with_links s r links); choices = cs }))
      (send_by_choice e.destinations r (with_links s r links) cs))
      ≡ sent (cond b (chosen_from (links ++ links_of e.destinations) es cs)
      (option_and_then (λ d. chosen_from (links ++ link_list d) es (drop 1 cs))
      (next_destination e.destinations cs)))) [
        | true ↦ ap (λ t. act_all net counts (acts es) (Some (record { state = t; choices = cs })))
            (sent_all_is e.destinations r (with_links s r links) ∙ more_links s r links (links_of e.destinations))
            ∙ sends_are es (links ++ links_of e.destinations) cs
        | false ↦ by_choice e es links cs (sends_are es)
      ]

-- ---- records taken in

abbrev pub held_out : State → Option (List (List Record)) → Outcome
held_out s None = Err 852
held_out s (Some held) = Ok (record s { held = held })

module _ (net : Net) (counts : Counts) where
  abbrev now : State → List (List Record) → Choices → Option Made
  now s held cs = Some (record { state = record s { held = held }; choices = cs })

  none_all : (hs : List Holding) → act_all net counts (map hold_act hs) None ≡ Err 852
  none_all [] = refl
  none_all (h ∷ hs) = refl

  taken_now : (hs : List Holding) (s : State) (held : List (List Record)) (holder : ℕ) (o : Option (List Record))
      (cs : Choices) → ((held : List (List Record)) → act_all net counts (map hold_act hs) (now s held cs)
      ≡ held_out s (hold_all counts hs held cs))
      → act_all net counts (map hold_act hs) (with_held (record s { held = held }) holder o cs)
      ≡ held_out s (option_and_then (λ (h : List (List Record)). hold_all counts hs h cs) (put_in held holder o))
  taken_now hs s held holder None cs rest = none_all hs
  taken_now hs s held holder (Some rs) cs rest = rest (slice_set held holder rs)

  held_now : (hs : List Holding) (s : State) (held : List (List Record)) (holder : ℕ) (r : Record) (choice : Option ℕ)
      (o : Option (List Record)) (cs : Choices)
      → ((held : List (List Record)) → act_all net counts (map hold_act hs) (now s held cs)
      ≡ held_out s (hold_all counts hs held cs))
      → act_all net counts (map hold_act hs) (hold_in o holder r (record s { held = held }) choice cs)
      ≡ held_out s (option_and_then (λ (h : List (List Record)). hold_all counts hs h cs)
      (take_in_at o held holder r choice))
  held_now hs s held holder r choice None cs rest = none_all hs
  held_now hs s held holder r choice (Some rs) cs rest = taken_now hs s held holder (taken_in rs choice r) cs rest

  pub holds_are : (hs : List Holding) (s : State) (held : List (List Record)) (cs : Choices)
      → act_all net counts (map hold_act hs) (now s held cs) ≡ held_out s (hold_all counts hs held cs)
  holds_are [] s held [] = refl
  holds_are [] s held (c ∷ cs) = refl
  holds_are (h ∷ hs) s held [] = none_all hs
  holds_are (h ∷ hs) s held (c ∷ cs) =
      held_now hs s held h.holder (record { key = h.key; counts = counts }) c (slice_get held h.holder) cs
      (λ (next : List (List Record)). holds_are hs s next cs)

-- ---- a crossing

-- a state by its parts
abbrev pub state_of : List Coming → List (List Record) → List (List Record) → List Record → ℕ → State
state_of coming held carried totals u =
    record { coming = coming; held = held; carried = carried; totals = totals; unassigned = u }

module _ (net : Net) (classes : List Class) (packets : List Packet) (i j : ℕ) (choices : Choices)
    (fs : List (List Bool)) (held carried : List (List Record)) (totals : List Record) (u : ℕ) (s : State)
    (e : state_of (coming_of 1 fs) held carried totals u ≡ wrapped_state s) where
  abbrev outcome : Outcome
  outcome = after_cross net classes (entry_numbered packets i) (place s.coming i j) j s choices

  coming_is : coming_of 1 fs ≡ s.coming
  coming_is = ap (λ (t : State). t.coming) e

  held_is : held ≡ s.held
  held_is = ap (λ (t : State). t.held) e

  pub cross_made : has_mark_at fs i j ≡ false → outcome ≡ Err 851
  cross_made h =
      ap (λ o. after_cross net classes (entry_numbered packets i) o j s choices)
      (ap (λ (cs : List Coming). place cs i j) (sym coming_is) ∙ crossing_none fs i j h)

  no_packet : (o : Option ℕ) → after_cross net classes None o j s choices ≡ Err 851
  no_packet None = refl
  no_packet (Some n) = refl

  pub cross_nobody : None ≡ entry_numbered packets i → outcome ≡ Err 851
  cross_nobody h = ap (λ p. after_cross net classes p (place s.coming i j) j s choices) (sym h)
      ∙ no_packet (place s.coming i j)

  pub cross_is : (p : Packet) (hs : List Holding) → has_mark_at fs i j ≡ true → Some p ≡ entry_numbered packets i
      → map hold_act hs ≡ crossing_acts net p.fields (entry_numbered (path classes p) j) → outcome
      ≡ held_out (record s { coming = coming_of 1 (without_mark fs i j) }) (hold_all (one_packet p) hs held choices)
  cross_is p hs f h acts =
      let g = crossing_goes fs i j f in
      let at : place s.coming i j ≡ Some g.0 = ap (λ (cs : List Coming). place cs i j) (sym coming_is) ∙ g.1 in
      let left : remove s.coming g.0 ≡ coming_of 1 (without_mark fs i j) =
      ap (λ (cs : List Coming). remove cs g.0) (sym coming_is) ∙ g.2 in
      let from : List Coming → State = λ cs. record s { coming = cs } in
      ap₂ (λ q o. after_cross net classes q o j s choices) (sym h) at
      ∙ ap₂ (λ (list : List Act) (cs : List Coming). act_all net (one_packet p) list
      (Some (record { state = from cs; choices = choices }))) (sym acts) left
      ∙ holds_are net (one_packet p) hs (from (coming_of 1 (without_mark fs i j))) s.held choices
      ∙ ap (λ (h' : List (List Record)). held_out (from (coming_of 1 (without_mark fs i j)))
      (hold_all (one_packet p) hs h' choices)) (sym held_is)

  pub crossed : (p : Packet) (hs : List Holding) (new_fs : List (List Bool)) (new_held : List (List Record))
      → has_mark_at fs i j ≡ true → Some p ≡ entry_numbered packets i → map hold_act hs
      ≡ crossing_acts net p.fields (entry_numbered (path classes p) j) → hold_all (one_packet p) hs held choices
      ≡ Some new_held → new_fs ≡ without_mark fs i j → (next : State) × (outcome ≡ Ok next)
      × (state_of (coming_of 1 new_fs) new_held carried totals u ≡ wrapped_state next)
  crossed p hs new_fs new_held f h acts taken clear =
      let change : State → State = λ t. record t { coming = coming_of 1 (without_mark fs i j); held = new_held } in (
        change s,
        cross_is p hs f h acts ∙ ap (held_out (record s { coming = coming_of 1 (without_mark fs i j) })) taken,
        ap (λ (x : List (List Bool)). state_of (coming_of 1 x) new_held carried totals u) clear ∙ ap change e,
      )

-- ---- a holder's record

module _ (net : Net) (name : HolderName) (number : ℕ) (choices : Choices) (coming : List Coming)
    (held carried : List (List Record)) (totals : List Record) (u : ℕ) (s : State)
    (e : state_of coming held carried totals u ≡ wrapped_state s) where
  abbrev left : Outcome
  left = expire_at net (holder_place net name) number s choices

  abbrev ended : State → Record → Option Chosen → Outcome
  ended t r None = Err 852
  ended t r (Some c) = all_used c.rest (record t { carried = put_all c.links r t.carried })

  sent_ended : (t : State) (r : Record) (o : Option Chosen) → sent net r.counts r.key t [] o ≡ ended t r o
  sent_ended t r None = refl
  sent_ended t r (Some c) = refl

  pub expire_nowhere : None ≡ holder_place net name → left ≡ Err 851
  expire_nowhere h = ap (λ o. expire_at net o number s choices) (sym h)

  pub expire_unheld : (place : ℕ) → Some place ≡ holder_place net name → None ≡ slice_get held place → left ≡ Err 851
  expire_unheld place h k =
      ap (λ o. expire_at net o number s choices) (sym h)
      ∙ ap (λ o. expire_from net place o number s choices)
      (ap (λ (rss : List (List Record)). slice_get rss place) (sym (ap (λ (t : State). t.held) e)) ∙ sym k)

  pub expire_missing : (place : ℕ) (rs : List Record) → Some place ≡ holder_place net name → Some rs
      ≡ slice_get held place → None ≡ entry_numbered rs number → left ≡ Err 853
  expire_missing place rs h k n =
      ap (λ o. expire_at net o number s choices) (sym h)
      ∙ ap (λ o. expire_from net place o number s choices)
      (ap (λ (rss : List (List Record)). slice_get rss place) (sym (ap (λ (t : State). t.held) e)) ∙ sym k)
      ∙ ap (λ o. after_expire net place rs number o s choices) (sym n)

  pub expire_is : (place : ℕ) (rs : List Record) (r : Record) (o : Option Chosen) → Some place ≡ holder_place net name
      → Some rs ≡ slice_get held place → Some r ≡ entry_numbered rs number
      → chosen_from [] (at_places net.exporters (named_by (slice_get net.holders place))) choices ≡ o → left
      ≡ ended (record s { held = taken_out s.held place number }) r o
  expire_is place rs r o h k n c =
      let found : slice_get s.held place ≡ Some rs =
      ap (λ (rss : List (List Record)). slice_get rss place) (sym (ap (λ (t : State). t.held) e)) ∙ sym k in
      let es = at_places net.exporters (named_by (slice_get net.holders place)) in
      let out : slice_set s.held place (without rs number) ≡ taken_out s.held place number =
      ap (λ (q : Option (List Record)). slice_set s.held place (without (entries q) number)) (sym found) in
      let from : State = record s { held = taken_out s.held place number } in
      ap (λ q. expire_at net q number s choices) (sym h) ∙ ap (λ q. expire_from net place q number s choices) found
      ∙ ap (λ q. after_expire net place rs number q s choices) (sym n)
      ∙ ap (λ (rss : List (List Record)). act_all net r.counts (map (λ x. Send x r.key) es)
      (Some (record { state = record s { held = rss }; choices = choices }))) out
      ∙ ap (λ list. act_all net r.counts list (Some (record { state = from; choices = choices })))
      (sym (append-nil (map (λ x. Send x r.key) es))) ∙ sends_are net r.counts r.key from [] es [] choices
      ∙ sent_ended from r (chosen_from [] es choices) ∙ ap (ended from r) c

  pub expired : (place : ℕ) (rs : List Record) (r : Record) (links : List ℕ) (rest : Choices)
      (new_held new_carried : List (List Record)) → Some place ≡ holder_place net name → Some rs ≡ slice_get held place
      → Some r ≡ entry_numbered rs number → chosen_from []
      (at_places net.exporters (named_by (slice_get net.holders place))) choices
      ≡ Some (record { links = links; rest = rest }) → ((t : State) → all_used rest t ≡ Ok t) → new_held
      ≡ taken_out held place number → new_carried ≡ put_all links r carried → (next : State) × (left ≡ Ok next)
      × (state_of coming new_held new_carried totals u ≡ wrapped_state next)
  expired place rs r links rest new_held new_carried h k n c used eh ec =
      let change : State → State = λ t. record t
      { held = taken_out t.held place number; carried = put_all links r t.carried } in (
        change s,
        expire_is place rs r (Some (record { links = links; rest = rest })) h k n c
            ∙ used (change s),
        ap₂ (λ (x y : List (List Record)). state_of coming x y totals u) eh ec ∙ ap change e,
      )

-- ---- a link's record

remove_append : (rs ys : List Record) (k : ℕ) (x : Record) → slice_get rs k ≡ Some x → remove (rs ++ ys) k ≡ remove rs k
    ++ ys
remove_append [] ys k x h = absurd (cc)
remove_append (r ∷ rs) ys zero x h = refl
remove_append (r ∷ rs) ys (suc k) x h = ap (λ (zs : List Record). r ∷ zs) (remove_append rs ys k x h)

without_append : (rs ys : List Record) (n : ℕ) (x : Record) → entry_numbered rs n ≡ Some x → without (rs ++ ys) n
    ≡ without rs n ++ ys
without_append rs ys zero x h = absurd (cc)
without_append rs ys (suc k) x h = remove_append rs ys k x h

get_append : (rs ys : List Record) (k : ℕ) (x : Record) → slice_get rs k ≡ Some x → slice_get (rs ++ ys) k ≡ Some x
get_append [] ys k x h = absurd (cc)
get_append (r ∷ rs) ys zero x h = h
get_append (r ∷ rs) ys (suc k) x h = get_append rs ys k x h

numbered_append : (rs ys : List Record) (n : ℕ) (x : Record) → entry_numbered rs n ≡ Some x
    → entry_numbered (rs ++ ys) n ≡ Some x
numbered_append rs ys zero x h = absurd (cc)
numbered_append rs ys (suc k) x h = get_append rs ys k x h

abbrev There : List (List Record) → ℕ → ℕ → Record → Type 0
There rss k n x = entry_numbered (entries (slice_get rss k)) n ≡ Some x

still_there : (rss : List (List Record)) (k n l : ℕ) (x r : Record) → There rss k n x → There (put_last rss l r) k n x
still_there [] k n l x r h = h
still_there (q ∷ qs) zero n zero x r h = numbered_append q (r ∷ []) n x h
still_there (q ∷ qs) zero n (suc l) x r h = h
still_there (q ∷ qs) (suc k) n zero x r h = h
still_there (q ∷ qs) (suc k) n (suc l) x r h = still_there qs k n l x r h

out_put : (rss : List (List Record)) (k n l : ℕ) (x r : Record) → There rss k n x → put_last (taken_out rss k n) l r
    ≡ taken_out (put_last rss l r) k n
out_put [] k n l x r h = refl
out_put (q ∷ qs) zero n zero x r h = ap (λ (y : List Record). y ∷ qs) (sym (without_append q (r ∷ []) n x h))
out_put (q ∷ qs) zero n (suc l) x r h = refl
out_put (q ∷ qs) (suc k) n zero x r h = refl
out_put (q ∷ qs) (suc k) n (suc l) x r h = ap (λ (ys : List (List Record)). q ∷ ys) (out_put qs k n l x r h)

out_all : (links : List ℕ) (rss : List (List Record)) (k n : ℕ) (x r : Record) → There rss k n x
    → put_all links r (taken_out rss k n) ≡ taken_out (put_all links r rss) k n
out_all [] rss k n x r h = refl
out_all (l ∷ ls) rss k n x r h = ap (put_all ls r) (out_put rss k n l x r h)
    ∙ out_all ls (put_last rss l r) k n x r (still_there rss k n l x r h)

abbrev pub summed : Net → Bool → Key → Counts → State → State
summed net t key counts s = record s {
  totals = totals_when t net.report_layout key counts s.totals;
  unassigned = unassigned_when t net.report_layout key s.unassigned;
}

summed_is : (net : Net) (t : Bool) (key : Key) (counts : Counts) (s : State) → cond t (after_tally net key counts s) s
    ≡ summed net t key counts s
summed_is net true key counts s =
    elim (refines key.layout net.report_layout)
    as (λ b. cond b (record s { totals = add_at s.totals (project key net.report_layout) counts })
    (record s { unassigned = s.unassigned + 1 })
    ≡ record s {
      totals = cond b (add_at s.totals (project key net.report_layout) counts) s.totals;
      unassigned =
          cond b s.unassigned (s.unassigned + 1);
    }) [
      | true ↦ refl
      | false ↦ refl
    ]
summed_is net false key counts s = refl

abbrev pub arrived_out : Net → State → Record → List Holding → Option Chosen → Outcome
arrived_out net t r hs None = Err 852
arrived_out net t r hs (Some c) = held_out (with_links t r c.links) (hold_all r.counts hs t.held c.rest)

module _ (net : Net) (s : State) (r : Record) (hs : List Holding) (choices : Choices) where
  first_tallied : (t : Bool) (rest : List Act)
      → act_all net r.counts (cond t (Tally r.key ∷ []) [] ++ rest) (Some (record { state = s; choices = choices }))
      ≡ act_all net r.counts rest (Some (record
      { state = cond t (after_tally net r.key r.counts s) s; choices = choices }))
  first_tallied true rest = refl
  first_tallied false rest = refl

  sent_arrived : (t : State) (o : Option Chosen) → sent net r.counts r.key t (map hold_act hs) o
      ≡ arrived_out net t r hs o
  sent_arrived t None = refl
  sent_arrived t (Some c) = holds_are net r.counts hs (with_links t r c.links) t.held c.rest

  pub handled : (t : Bool) (places : List ℕ)
      → act_all net r.counts (handling_acts net r.key t places hs) (Some (record { state = s; choices = choices }))
      ≡ arrived_out net (summed net t r.key r.counts s) r hs (chosen_from [] (at_places net.exporters places) choices)
  handled t places =
      let then = sends net r.key places ++ map hold_act hs in
      let es = at_places net.exporters places in
      let next : State = summed net t r.key r.counts s in
      first_tallied t then ∙ ap (λ (x : State). act_all net r.counts
      then (Some (record { state = x; choices = choices }))) (summed_is net t r.key r.counts s)
      ∙ sends_are net r.counts r.key next (map hold_act hs) es [] choices
      ∙ sent_arrived next (chosen_from [] es choices)

pub same_parts : (a b : List Coming) (c d f g : List (List Record)) (h i : List Record) (j k : ℕ) → a ≡ b → c ≡ d → f
    ≡ g → h ≡ i → j ≡ k → state_of a c f h j ≡ state_of b d g i k
same_parts a b c d f g h i j k ab cd fg hi jk =
    ap₂ (λ (x : List Coming) (y : List (List Record)). state_of x y f h j) ab cd
    ∙ ap₂ (λ (x : List (List Record)) (y : List Record). state_of b d x y j) fg hi ∙ ap (λ n. state_of b d g i n) jk

module _ (net : Net) (link number : ℕ) (choices : Choices) (coming : List Coming) (held carried : List (List Record))
    (totals : List Record) (u : ℕ) (s : State) (e : state_of coming held carried totals u ≡ wrapped_state s) where
  abbrev handed : Outcome
  handed = arrive_at net (link_place link) number s choices

  carried_is : carried ≡ s.carried
  carried_is = ap (λ (t : State). t.carried) e

  pub arrive_nowhere : None ≡ link_place link → handed ≡ Err 851
  arrive_nowhere h = ap (λ o. arrive_at net o number s choices) (sym h)

  pub arrive_unlinked : (place : ℕ) → Some place ≡ link_place link → None ≡ slice_get carried place → handed ≡ Err 851
  arrive_unlinked place h k =
      ap (λ o. arrive_at net o number s choices) (sym h)
      ∙ ap (λ o. arrive_from net place o number s choices)
      (ap (λ (rss : List (List Record)). slice_get rss place) (sym carried_is) ∙ sym k)

  pub arrive_missing : (place : ℕ) (rs : List Record) → Some place ≡ link_place link → Some rs ≡ slice_get carried place
      → None ≡ entry_numbered rs number → handed ≡ Err 853
  arrive_missing place rs h k n =
      ap (λ o. arrive_at net o number s choices) (sym h)
      ∙ ap (λ o. arrive_from net place o number s choices)
      (ap (λ (rss : List (List Record)). slice_get rss place) (sym carried_is) ∙ sym k)
      ∙ ap (λ o. after_arrive net place rs number o s choices) (sym n)

  abbrev freed : ℕ → State
  freed place = record s { carried = taken_out s.carried place number }

  pub arrive_is : (place : ℕ) (rs : List Record) (r : Record) (t : Bool) (places : List ℕ) (hs : List Holding)
      (o : Option Chosen) → Some place ≡ link_place link → Some rs ≡ slice_get carried place → Some r
      ≡ entry_numbered rs number → acts_of_arrival net r.key (slice_get net.links place)
      ≡ handling_acts net r.key t places hs → chosen_from [] (at_places net.exporters places) choices ≡ o → handed
      ≡ arrived_out net (summed net t r.key r.counts (freed place)) r hs o
  arrive_is place rs r t places hs o h k n acts c =
      let found : slice_get s.carried place ≡ Some rs =
      ap (λ (rss : List (List Record)). slice_get rss place) (sym carried_is) ∙ sym k in
      let out : slice_set s.carried place (without rs number) ≡ taken_out s.carried place number =
      ap (λ (q : Option (List Record)). slice_set s.carried place (without (entries q) number)) (sym found) in
      ap (λ q. arrive_at net q number s choices) (sym h) ∙ ap (λ q. arrive_from net place q number s choices) found
      ∙ ap (λ q. after_arrive net place rs number q s choices) (sym n)
      ∙ ap₂ (λ (list : List Act) (rss : List (List Record)). act_all net r.counts list
      (Some (record { state = record s { carried = rss }; choices = choices }))) acts out
      ∙ handled net (freed place) r hs choices t places
      ∙ ap (arrived_out net (summed net t r.key r.counts (freed place)) r hs) c

  pub refused_holds : (place : ℕ) (rs : List Record) (r : Record) (t : Bool) (places : List ℕ) (hs : List Holding)
      (links : List ℕ) (rest : Choices) → Some place ≡ link_place link → Some rs ≡ slice_get carried place → Some r
      ≡ entry_numbered rs number → acts_of_arrival net r.key (slice_get net.links place)
      ≡ handling_acts net r.key t places hs → chosen_from [] (at_places net.exporters places) choices
      ≡ Some (record { links = links; rest = rest }) → hold_all r.counts hs held rest ≡ None → handed ≡ Err 852
  refused_holds place rs r t places hs links rest h k n acts c refused' =
      let taken' : hold_all r.counts hs s.held rest ≡ None =
      ap (λ (x : List (List Record)). hold_all r.counts hs x rest) (sym (ap (λ (x : State). x.held) e)) ∙ refused'
      in
      arrive_is place rs r t places hs (Some (record { links = links; rest = rest })) h k n acts c
      ∙ ap (held_out (with_links (summed net t r.key r.counts (freed place)) r links)) taken'

  pub arrived : (place : ℕ) (rs : List Record) (r : Record) (t : Bool) (places : List ℕ) (hs : List Holding)
      (links : List ℕ) (rest : Choices) (new_held new_carried : List (List Record)) (new_totals : List Record)
      (new_u : ℕ) → Some place ≡ link_place link → Some rs ≡ slice_get carried place → Some r ≡ entry_numbered rs number
      → acts_of_arrival net r.key (slice_get net.links place) ≡ handling_acts net r.key t places hs
      → chosen_from [] (at_places net.exporters places) choices ≡ Some (record { links = links; rest = rest })
      → hold_all r.counts hs held rest ≡ Some new_held → new_carried ≡ taken_out (put_all links r carried) place number
      → new_totals ≡ totals_when t net.report_layout r.key r.counts totals
      → ((v : ℕ) → u ≡ v % 2 ^ 64 → new_u ≡ unassigned_when t net.report_layout r.key v % 2 ^ 64) → (next : State)
      × (handed ≡ Ok next) × (state_of coming new_held new_carried new_totals new_u ≡ wrapped_state next)
  arrived place rs r t places hs links rest new_held new_carried new_totals new_u h k n acts c taken ec et eu =
      let there : There carried place number r =
      ap (λ (q : Option (List Record)). entry_numbered (entries q) number) (sym k) ∙ sym n in
      let next : State = record s {
        held = new_held;
        carried =
            put_all links r (taken_out s.carried place number);
        totals =
            totals_when t net.report_layout r.key r.counts s.totals;
        unassigned =
            unassigned_when t net.report_layout r.key s.unassigned;
      } in
      let taken' : hold_all r.counts hs s.held rest ≡ Some new_held =
      ap (λ (x : List (List Record)). hold_all r.counts hs x rest) (sym (ap (λ (x : State). x.held) e)) ∙ taken in
      let made : handed ≡ Ok next = arrive_is place rs r t places hs (Some (record { links = links; rest = rest })) h k
      n acts c ∙ ap (held_out (with_links (summed net t r.key r.counts (freed place)) r links)) taken' in
      let carried' : new_carried ≡ put_all links r (taken_out s.carried place number) = ec
      ∙ sym (out_all links carried place number r r there)
      ∙ ap (λ (x : List (List Record)). put_all links r (taken_out x place number)) carried_is in
      let totals' : new_totals ≡ totals_when t net.report_layout r.key r.counts s.totals = et
      ∙ ap (totals_when t net.report_layout r.key r.counts) (ap (λ (x : State). x.totals) e) in (
        next,
        made,
        same_parts coming s.coming new_held new_held new_carried next.carried new_totals next.totals new_u
            (next.unassigned % 2 ^ 64) (ap (λ (x : State). x.coming) e) refl carried' totals'
            (eu s.unassigned (ap (λ (x : State). x.unassigned) e)),
      )

-- ---- choices

pub choices_left : (cs : Choices) (used : ℕ) (s : State) → used < length cs → all_used (drop used cs) s ≡ Err 852
choices_left [] used s lt = absurd (omega arith)
choices_left (c ∷ cs) zero s lt = refl
choices_left (c ∷ cs) (suc n) s lt = choices_left cs n s (le_of_suc-le-suc lt)

pub choices_used : (cs : Choices) (used : ℕ) → length cs ≤ used → (s : State) → all_used (drop used cs) s ≡ Ok s
choices_used [] zero le s = refl
choices_used [] (suc n) le s = refl
choices_used (c ∷ cs) zero le s = absurd (omega arith)
choices_used (c ∷ cs) (suc n) le s = choices_used cs n (le_of_suc-le-suc le) s
