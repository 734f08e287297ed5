-- A step of a run in the making: the record on top leaves, and what comes of it is put on top.
use Rattle.std.proofs.Common.{◌≡◌, ℕ, zero, suc, ◌+◌, ◌<◌, true, false, cond, List, [], ◌∷◌, ◌++◌, length, Option, Some, None, Ok, refl, sym, ap, ◌∙◌, arith, slice_get, slice_set}
use Rattle.fx_base.specs.declared.counts.Counts.{Counts}
use Rattle.fx_layout.specs.Keys.{Key, refines, project}
use Rattle.fx_tables.specs.declared.record.Record.{Record}
use Rattle.fx_tables.specs.declared.packet.Packet.{Packet}
use Rattle.fx_run_text.specs.declared.step.Step.TheVariants.{Expire, Arrive}
use Rattle.fx_machine.specs.Acts.{Act, Send, Hold, Choices, act, act_all, all_acts, hold_in, sent_to_chosen, send_by_choice}
use Rattle.fx_tables.specs.Network.{Net, Exporter}
use Rattle.fx_base.specs.Entries.{entry_numbered}
use Rattle.fx_tables.specs.Classes.{Class}
use Rattle.fx_tables.specs.Ranks.{IsNetwork}
use Rattle.fx_machine.specs.States.{State, after_tally, put_last, add_at, sent_to_all}
use Rattle.fx_machine.specs.Steps.{after, acts_of_leaving, acts_of_arrival, one_packet}
use Rattle.fx_leaf.specs.Laws.{IsSized}
use Rattle.fx_machine.proofs.Lists.{length_put_last}
use Rattle.fx_steps.specs.Building.{Item, Held, Carried, with_item, with_items, with_tallies, Spreads}
use Rattle.fx_tables.specs.Runnable.{IsHolder}
use Rattle.fx_steps.specs.Ways.{Task, acts, one, to}
use Rattle.fx_steps.proofs.Places.{there}
use Rattle.fx_steps.proofs.RunsOfPackets

put_is_set : (rss : List (List Record)) (n : ℕ) (rs : List Record) (r : Record) → slice_get rss n ≡ Some rs
    → slice_set rss n (rs ++ r ∷ []) ≡ put_last rss n r
put_is_set [] n rs r h = absurd (cc)
put_is_set (ss ∷ rss) zero rs r h = let e : rs ≡ ss = cc in ap (λ vs. (vs ++ r ∷ []) ∷ rss) e
put_is_set (ss ∷ rss) (suc n) rs r h = ap (λ vs. ss ∷ vs) (put_is_set rss n rs r h)

module _ (net : Net) (counts : Counts) where
  -- ---- what is put and what is tallied don't meet

  tallied_put : (k : Key) (i : Item) (s : State) → after_tally net k counts (with_item counts i s)
      ≡ with_item counts i (after_tally net k counts s)
  tallied_put k i s =
      let yes : State → State = λ s. record s { totals = add_at s.totals (project k net.report_layout) counts } in
      let no : State → State = λ s. record s { unassigned = s.unassigned + 1 } in
      elim (refines k.layout net.report_layout)
      as (λ b. cond b (yes (with_item counts i s)) (no (with_item counts i s))
      ≡ with_item counts i (cond b (yes s) (no s))) [
        | true ↦ elim i as (λ j. yes (with_item counts j s) ≡ with_item counts j (yes s))
            [ Held holder key ↦ refl | Carried link key ↦ refl ]
        | false ↦ elim i as (λ j. no (with_item counts j s) ≡ with_item counts j (no s))
            [ Held holder key ↦ refl | Carried link key ↦ refl ]
      ]

  tally_put : (ks : List Key) (i : Item) (s : State) → with_tallies net counts ks (with_item counts i s)
      ≡ with_item counts i (with_tallies net counts ks s)
  tally_put [] i s = refl
  tally_put (k ∷ ks) i s = ap (with_tallies net counts ks) (tallied_put k i s)
      ∙ tally_put ks i (after_tally net k counts s)

  pub tally_put_each : (ks : List Key) (is : List Item) (s : State)
      → with_tallies net counts ks (with_items counts is s) ≡ with_items counts is (with_tallies net counts ks s)
  tally_put_each ks [] s = refl
  tally_put_each ks (i ∷ is) s = tally_put_each ks is (with_item counts i s)
      ∙ ap (with_items counts is) (tally_put ks i s)

  pub put_append : (is js : List Item) (s : State) → with_items counts (is ++ js) s
      ≡ with_items counts js (with_items counts is s)
  put_append [] js s = refl
  put_append (i ∷ is) js s = put_append is js (with_item counts i s)

  tally_append : (ks ls : List Key) (s : State) → with_tallies net counts (ks ++ ls) s
      ≡ with_tallies net counts ls (with_tallies net counts ks s)
  tally_append [] ls s = refl
  tally_append (k ∷ ks) ls s = tally_append ks ls (after_tally net k counts s)

  spread_twice : (is js : List Item) (ks ls : List Key) (s : State)
      → with_items counts js (with_tallies net counts ls (with_items counts is (with_tallies net counts ks s)))
      ≡ with_items counts (is ++ js) (with_tallies net counts (ks ++ ls) s)
  spread_twice is js ks ls s =
      ap (with_items counts js) (tally_put_each ls is (with_tallies net counts ks s))
      ∙ ap (λ x. with_items counts js (with_items counts is x)) (sym (tally_append ks ls s))
      ∙ sym (put_append is js (with_tallies net counts (ks ++ ls) s))

  -- ---- sizes stay

  sized_put : (i : Item) (s : State) → IsSized net s → IsSized net (with_item counts i s)
  sized_put (Held holder key) s z = record {
    held =
        length_put_last s.held holder (record { key = key; counts = counts }) ∙ z.held;
    carried = z.carried;
  }
  sized_put (Carried link key) s z = record {
    held = z.held;
    carried =
        length_put_last s.carried link (record { key = key; counts = counts }) ∙ z.carried;
  }

  pub sized_put_each : (is : List Item) (s : State) → IsSized net s → IsSized net (with_items counts is s)
  sized_put_each [] s z = z
  sized_put_each (i ∷ is) s z = sized_put_each is (with_item counts i s) (sized_put i s z)

  sized_tallied : (k : Key) (s : State) → IsSized net s → IsSized net (after_tally net k counts s)
  sized_tallied k s z =
      let yes : State = record s { totals = add_at s.totals (project k net.report_layout) counts } in
      let no : State = record s { unassigned = s.unassigned + 1 } in
      elim (refines k.layout net.report_layout) as (λ b. IsSized net (cond b yes no)) [
        | true ↦ record { held = z.held; carried = z.carried }
        | false ↦ record { held = z.held; carried = z.carried }
      ]

  pub sized_tally : (ks : List Key) (s : State) → IsSized net s → IsSized net (with_tallies net counts ks s)
  sized_tally [] s z = z
  sized_tally (k ∷ ks) s z = sized_tally ks (after_tally net k counts s) (sized_tallied k s z)

  -- ---- acts are done as they are spread

  pub Done : Task → Choices → List Item → List Key → Type 0
  Done (acts as') c is ks = (s : State) → IsSized net s → all_acts net counts as' s c
      ≡ Ok (with_items counts is (with_tallies net counts ks s))
  Done (one a) c is ks = (s : State) (more : Choices) → IsSized net s → act net counts a s (c ++ more)
      ≡ Some (record { state = with_items counts is (with_tallies net counts ks s); choices = more })
  Done (to key ds) c is ks = (s : State) → sent_to_all ds (record { key = key; counts = counts }) s
      ≡ with_items counts is s

  hold_done : (holder : ℕ) (key : Key) → holder < length net.holders
      → Done (one (Hold holder key)) (None ∷ []) (Held holder key ∷ []) []
  unfolding Done
  hold_done holder key lt s more z =
      let r : Record = record { key = key; counts = counts } in
      let here = there s.held holder (let e = z.held in omega arith) in
      ap (λ o. hold_in o holder r s None more) here.1
      ∙ ap (λ rss. Some (record { state = record s { held = rss }; choices = more }))
      (put_is_set s.held holder here.0 r here.1)

  next_done : (a : Act) (as' : List Act) (c d : Choices) (is js : List Item) (ks ls : List Key) → Done (one a) c is ks
      → Done (acts as') d js ls → Done (acts (a ∷ as')) (c ++ d) (is ++ js) (ks ++ ls)
  unfolding Done
  next_done a as' c d is js ks ls h k s z =
      let mid = with_items counts is (with_tallies net counts ks s) in
      ap (act_all net counts as') (h s d z) ∙ k mid
      (sized_put_each is (with_tallies net counts ks s) (sized_tally ks s z)) ∙ ap Ok (spread_twice is js ks ls s)

  all_done : (e : Exporter) (key : Key) (is : List Item) → e.parallel ≡ true → Done (to key e.destinations) [] is []
      → Done (one (Send e key)) [] is []
  unfolding Done
  all_done e key is p h s more z =
      let r : Record = record { key = key; counts = counts } in
      ap (λ b. cond b (Some (record { state = sent_to_all e.destinations r s; choices = more }))
      (send_by_choice e.destinations r s more)) p ∙ ap (λ x. Some (record { state = x; choices = more })) (h s)

  any_done : (e : Exporter) (key : Key) (number : ℕ) (d : Option ℕ) (is : List Item) → e.parallel ≡ false
      → entry_numbered e.destinations number ≡ Some d → Done (to key (d ∷ [])) [] is []
      → Done (one (Send e key)) (Some number ∷ []) is []
  unfolding Done
  any_done e key number d is p at h s more z =
      let r : Record = record { key = key; counts = counts } in
      ap (λ b. cond b (Some (record { state = sent_to_all e.destinations r s; choices = Some number ∷ more }))
      (send_by_choice e.destinations r s (Some number ∷ more))) p ∙ ap (λ o. sent_to_chosen o r s more) at
      ∙ ap (λ x. Some (record { state = x; choices = more })) (h s)

  pub done : {t : Task} {c : Choices} {is : List Item} {ks : List Key} → Spreads net t c is ks → Done t c is ks
  unfolding Done
  done Spreads.no_act = λ s z. refl
  done (Spreads.next_act a as' c d is js ks ls x y) = next_done a as' c d is js ks ls (done x) (done y)
  done (Spreads.tally key) = λ s more z. refl
  done (Spreads.hold holder key lt) = hold_done holder key lt
  done (Spreads.to_all e key is p x) = all_done e key is p (done x)
  done (Spreads.to_any e key number d is p at x) = any_done e key number d is p at (done x)
  done (Spreads.no_destination key) = λ s. refl
  done (Spreads.to_outside key ds is x) = done x
  done (Spreads.to_link key link ds is lt x) = λ s. done x (with_item counts (Carried link key) s)

  pub acts_done : (as' : List Act) (c : Choices) (is : List Item) (ks : List Key) → Spreads net (acts as') c is ks
      → (s : State) → IsSized net s → all_acts net counts as' s c
      ≡ Ok (with_items counts is (with_tallies net counts ks s))
  unfolding Done
  acts_done as' c is ks x = done x

-- ---- the record on top leaves

module _ (net : Net) (classes : List Class) (p : Packet) (network : IsNetwork net) where
  pub held_leaves : (holder : ℕ) (h : IsHolder net holder) (key : Key) (c : Choices) (is : List Item) (ks : List Key)
      (s : State) (rs : List Record) → Spreads net (acts (acts_of_leaving net holder key)) c is ks → IsSized net s
      → slice_get s.held holder ≡ Some rs → after net classes (p ∷ []) (Expire h.name (suc (length rs)) c)
      (with_item (one_packet p) (Held holder key) s)
      ≡ Ok (with_items (one_packet p) is (with_tallies net (one_packet p) ks s))
  held_leaves holder h key c is ks s rs x z at =
      let r : Record = record { key = key; counts = one_packet p } in
      ap (λ (rss : List (List Record)). after net classes (p ∷ []) (Expire h.name (suc (length rs)) c)
      (record s { held = rss })) (sym (put_is_set s.held holder rs r at))
      ∙ RunsOfPackets.expires net classes p network holder h rs r s c at
      ∙ acts_done net (one_packet p) (acts_of_leaving net holder key) c is ks x s z

  pub carried_arrives : (link : ℕ) (key : Key) (c : Choices) (is : List Item) (ks : List Key) (s : State)
      (rs : List Record) → Spreads net (acts (acts_of_arrival net key (slice_get net.links link))) c is ks
      → IsSized net s → slice_get s.carried link ≡ Some rs
      → after net classes (p ∷ []) (Arrive (suc link) (suc (length rs)) c)
      (with_item (one_packet p) (Carried link key) s)
      ≡ Ok (with_items (one_packet p) is (with_tallies net (one_packet p) ks s))
  carried_arrives link key c is ks s rs x z at =
      let r : Record = record { key = key; counts = one_packet p } in
      RunsOfPackets.arrives net classes p network link rs r s c at
      ∙ acts_done net (one_packet p) (acts_of_arrival net key (slice_get net.links link)) c is ks x s z
