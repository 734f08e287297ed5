-- A step with its choices written is one of the moves, and each move is such a step.
use Rattle.std.proofs.Common.{◌≡◌, inl, inr, ℕ, zero, suc, true, false, cond, List, [], ◌∷◌, ◌++◌, Option, Some, None, Ok, refl, sym, ap, ap₂, ◌∙◌, slice_get, slice_set, remove}
use Rattle.fx_base.specs.declared.counts.Counts.{Counts}
use Rattle.fx_base.specs.Counts.{add_counts}
use Rattle.fx_layout.specs.Keys.{Key, same_key}
use Rattle.fx_tables.specs.declared.packet.Packet.{Packet}
use Rattle.fx_tables.specs.declared.record.Record.{Record}
use Rattle.fx_tables.specs.declared.holder_name.HolderName.{HolderName}
use Rattle.fx_run_text.specs.declared.step.Step.{Step}
use Rattle.fx_run_text.specs.declared.step.Step.TheVariants.{Cross, Expire, Arrive}
use Rattle.fx_tables.specs.Network.{Net, Exporter, holder_place}
use Rattle.fx_base.specs.Entries.{entry_numbered}
use Rattle.fx_tables.specs.Classes.{Class, path}
use Rattle.fx_machine.specs.States.{State, after_tally, sent_to, sent_to_all, with_entry, without}
use Rattle.fx_machine.specs.Acts.{Choices, Act, Tally, Send, Hold, Made, sent_to_chosen, send_by_choice, records_joining, taken_in, with_held, hold_in, act, act_all, all_used}
use Rattle.fx_machine.specs.Steps.{one_packet, crossing_acts, acts_of_leaving, acts_of_arrival, place, after_cross, after_expire, after_arrive, expire_from, expire_at, arrive_from, arrive_at, link_place, after}
use Rattle.fx_machine.specs.Moves.{MaySend, MayTakeIn, MayDo, MayDoAll, Moves, crosses, expires, arrives}

-- from the choices to the move
chosen_may : (ds : List (Option ℕ)) (n : ℕ) (r : Record) (s : State) (cs : Choices) (made : Made)
    (o : Option (Option ℕ)) → entry_numbered ds n ≡ o → sent_to_chosen o r s cs ≡ Some made
    → MaySend false ds r s made.state
chosen_may ds n r s cs made None e h = absurd (cc)
chosen_may ds n r s cs made (Some d) e h = let same : made.state ≡ sent_to d r s = cc in (n, d, e, same)

send_may : (ds : List (Option ℕ)) (r : Record) (s : State) (cs : Choices) (made : Made) → send_by_choice ds r s cs
    ≡ Some made → MaySend false ds r s made.state
send_may ds r s [] made h = absurd (cc)
send_may ds r s (None ∷ cs) made h = absurd (cc)
send_may ds r s (Some n ∷ cs) made h = chosen_may ds n r s cs made (entry_numbered ds n) refl h

joined_may : (rs : List Record) (n : ℕ) (r : Record) (new : List Record) (o : Option Record) → entry_numbered rs n ≡ o
    → records_joining o rs n r ≡ Some new → MayTakeIn rs r new
joined_may rs n r new None e h = absurd (cc)
joined_may rs n r new (Some old) e h =
    let sum : Record = record { key = old.key; counts = add_counts old.counts r.counts } in
    elim (same_key old.key r.key) as (λ b. same_key old.key r.key ≡ b → cond b (Some (with_entry rs n sum)) None
    ≡ Some new → MayTakeIn rs r new) [
      | true ↦ λ k q. let same : new ≡ with_entry rs n sum = cc in inr (n, old, e, k, same)
      | false ↦ λ k q. absurd (cc)
    ] refl h

taken_may : (rs : List Record) (choice : Option ℕ) (r : Record) (new : List Record) → taken_in rs choice r ≡ Some new
    → MayTakeIn rs r new
taken_may rs None r new h = let same : new ≡ rs ++ r ∷ [] = cc in inl same
taken_may rs (Some n) r new h = joined_may rs n r new (entry_numbered rs n) refl h

module _ (net : Net) (counts : Counts) where
  held_may : (holder : ℕ) (key : Key) (s : State) (rs : List Record) (choice : Option ℕ) (cs : Choices) (made : Made)
      (o : Option (List Record)) → slice_get s.held holder ≡ Some rs
      → taken_in rs choice (record { key = key; counts = counts }) ≡ o → with_held s holder o cs ≡ Some made
      → MayDo net counts (Hold holder key) s made.state
  held_may holder key s rs choice cs made None e t h = absurd (cc)
  held_may holder key s rs choice cs made (Some new) e t h =
      let next : State = record s { held = slice_set s.held holder new } in
      let same : made.state ≡ next = cc in
      (rs, new, e, taken_may rs choice (record { key = key; counts = counts }) new t, same)

  hold_in_may : (holder : ℕ) (key : Key) (s : State) (choice : Option ℕ) (cs : Choices) (made : Made)
      (o : Option (List Record)) → slice_get s.held holder ≡ o
      → hold_in o holder (record { key = key; counts = counts }) s choice cs ≡ Some made
      → MayDo net counts (Hold holder key) s made.state
  hold_in_may holder key s choice cs made None e h = absurd (cc)
  hold_in_may holder key s choice cs made (Some rs) e h =
      held_may holder key s rs choice cs made (taken_in rs choice (record { key = key; counts = counts })) e refl h

  act_may : (a : Act) (s : State) (cs : Choices) (made : Made) → act net counts a s cs ≡ Some made
      → MayDo net counts a s made.state
  act_may (Tally key) s cs made h = let same : made.state ≡ after_tally net key counts s = cc in same
  act_may (Send e key) s cs made h =
      let r : Record = record { key = key; counts = counts } in
      elim e.parallel as (λ b. cond b (Some (record { state = sent_to_all e.destinations r s; choices = cs }))
      (send_by_choice e.destinations r s cs) ≡ Some made → MaySend b e.destinations r s made.state) [
        | true ↦ λ q. let same : made.state ≡ sent_to_all e.destinations r s = cc in same
        | false ↦ λ q. send_may e.destinations r s cs made q
      ] h
  act_may (Hold holder key) s [] made h = absurd (cc)
  act_may (Hold holder key) s (choice ∷ cs) made h =
      hold_in_may holder key s choice cs made (slice_get s.held holder) refl h

  used_is : (cs : Choices) (s new : State) → all_used cs s ≡ Ok new → s ≡ new
  used_is [] s new h = cc
  used_is (c ∷ cs) s new h = absurd (cc)

  next_may : (a : Act) (acts : List Act) (made : Made) (new : State) (o : Option Made)
      → ((next : Made) → act_all net counts acts (Some next) ≡ Ok new → MayDoAll net counts acts next.state new)
      → act net counts a made.state made.choices ≡ o → act_all net counts acts o ≡ Ok new
      → MayDoAll net counts (a ∷ acts) made.state new
  next_may a [] made new None rest e h = absurd (cc)
  next_may a (b ∷ acts) made new None rest e h = absurd (cc)
  next_may a acts made new (Some next) rest e h = (next.state, act_may a made.state made.choices next e, rest next h)

  acts_may : (acts : List Act) (made : Made) (new : State) → act_all net counts acts (Some made) ≡ Ok new
      → MayDoAll net counts acts made.state new
  acts_may [] made new h = used_is made.choices made.state new h
  acts_may (a ∷ acts) made new h =
      next_may a acts made new (act net counts a made.state made.choices) (λ next. λ k. acts_may acts next new k) refl h

  -- from the move to the choices
  abbrev Made' : State → Choices → Option Made
  Made' s cs = Some (record { state = s; choices = cs })

  abbrev Chooses : Act → State → State → Type 0
  Chooses a s mid = (mine : Choices) × ((rest : Choices) → act net counts a s (mine ++ rest) ≡ Made' mid rest)

  may_send : (e : Exporter) (key : Key) (s mid : State) → MayDo net counts (Send e key) s mid
      → Chooses (Send e key) s mid
  may_send e key s mid m =
      let r : Record = record { key = key; counts = counts } in
      elim e.parallel as (λ b. MaySend b e.destinations r s mid → (mine : Choices)
      × ((rest : Choices) → cond b (Made' (sent_to_all e.destinations r s) (mine ++ rest))
      (send_by_choice e.destinations r s (mine ++ rest)) ≡ Made' mid rest)) [
        | true ↦ λ q. ([], λ rest. ap (λ t. Made' t rest) (sym q))
        | false ↦ λ q. (
          Some q.0 ∷ [],
          λ rest. ap (λ o. sent_to_chosen o r s rest) q.2
              ∙ ap (λ t. Made' t rest) (sym q.3),
        )
      ] m

  may_take : (rs : List Record) (r : Record) (new : List Record) → MayTakeIn rs r new → (choice : Option ℕ)
      × (taken_in rs choice r ≡ Some new)
  may_take rs r new m =
      elim m [
        | inl e ↦ (None, ap Some (sym e))
        | inr t ↦ (
          Some t.0,
          ap (λ o. records_joining o rs t.0 r) t.2
              ∙ ap (λ b. cond b (Some (with_entry rs t.0
              (record { key = t.1.key; counts = add_counts t.1.counts r.counts }))) None) t.3 ∙ ap Some (sym t.4),
        )
      ]

  may_act : (a : Act) (s mid : State) → MayDo net counts a s mid → Chooses a s mid
  may_act (Tally key) s mid m = ([], λ rest. ap (λ t. Made' t rest) (sym m))
  may_act (Send e key) s mid m = may_send e key s mid m
  may_act (Hold holder key) s mid m =
      let r : Record = record { key = key; counts = counts } in
      let t = may_take m.0 r m.1 m.3 in (
        t.0 ∷ [],
        λ rest. ap (λ o. hold_in o holder r s t.0 rest) m.2 ∙ ap (λ o. with_held s holder o rest) t.1
            ∙ ap (λ q. Made' q rest) (sym m.4),
      )

  may_acts : (acts : List Act) (s new : State) → MayDoAll net counts acts s new → (cs : Choices)
      × (act_all net counts acts (Made' s cs) ≡ Ok new)
  may_acts [] s new m = ([], ap Ok m)
  may_acts (a ∷ acts) s new m =
      let one = may_act a s m.0 m.1 in
      let rest = may_acts acts m.0 new m.2 in
      (one.0 ++ rest.0, ap (act_all net counts acts) (one.1 rest.0) ∙ rest.1)

module _ (net : Net) (classes : List Class) (packets : List Packet) where
  -- each move is a step with some choices
  pub move_is_step : (s new : State) → Moves net classes packets s new → (step : Step)
      × (after net classes packets step s ≡ Ok new)
  move_is_step s new (crosses packet crossing n p e k m) =
      let cs = may_acts net (one_packet p) (crossing_acts net p.fields (entry_numbered (path classes p) crossing))
      (record s { coming = remove s.coming n }) new m in
      (Cross packet crossing cs.0, ap₂ (λ q o. after_cross net classes q o crossing s cs.0) e k ∙ cs.1)
  move_is_step s new (expires name holder number rs r h e k m) =
      let cs = may_acts net r.counts (acts_of_leaving net holder r.key)
      (record s { held = slice_set s.held holder (without rs number) }) new m in (
        Expire name number cs.0,
        ap (λ o. expire_at net o number s cs.0) h
            ∙ ap (λ o. expire_from net holder o number s cs.0) e
            ∙ ap (λ o. after_expire net holder rs number o s cs.0) k
            ∙ cs.1,
      )
  move_is_step s new (arrives link number rs r e k m) =
      let cs = may_acts net r.counts (acts_of_arrival net r.key (slice_get net.links link))
      (record s { carried = slice_set s.carried link (without rs number) }) new m in (
        Arrive (suc link) number cs.0,
        ap (λ o. arrive_from net link o number s cs.0) e
            ∙ ap (λ o. after_arrive net link rs number o s cs.0) k ∙ cs.1,
      )

  cross_moves : (packet crossing : ℕ) (p : Option Packet) (o : Option ℕ) (s new : State) (cs : Choices)
      → entry_numbered packets packet ≡ p → place s.coming packet crossing ≡ o
      → after_cross net classes p o crossing s cs ≡ Ok new → Moves net classes packets s new
  cross_moves packet crossing p None s new cs e k h = absurd (cc)
  cross_moves packet crossing None (Some n) s new cs e k h = absurd (cc)
  cross_moves packet crossing (Some p) (Some n) s new cs e k h =
      crosses packet crossing n p e k (acts_may net (one_packet p)
      (crossing_acts net p.fields (entry_numbered (path classes p) crossing))
      (record { state = record s { coming = remove s.coming n }; choices = cs }) new h)

  expire_moves : (name : HolderName) (holder number : ℕ) (rs : List Record) (o : Option Record) (s new : State)
      (cs : Choices) → holder_place net name ≡ Some holder → slice_get s.held holder ≡ Some rs
      → entry_numbered rs number ≡ o → after_expire net holder rs number o s cs ≡ Ok new
      → Moves net classes packets s new
  expire_moves name holder number rs None s new cs n e k h = absurd (cc)
  expire_moves name holder number rs (Some r) s new cs n e k h =
      expires name holder number rs r n e k (acts_may net r.counts (acts_of_leaving net holder r.key)
      (record { state = record s { held = slice_set s.held holder (without rs number) }; choices = cs }) new h)

  expire_from_moves : (name : HolderName) (holder number : ℕ) (o : Option (List Record)) (s new : State) (cs : Choices)
      → holder_place net name ≡ Some holder → slice_get s.held holder ≡ o → expire_from net holder o number s cs
      ≡ Ok new → Moves net classes packets s new
  expire_from_moves name holder number None s new cs n e h = absurd (cc)
  expire_from_moves name holder number (Some rs) s new cs n e h =
      expire_moves name holder number rs (entry_numbered rs number) s new cs n e refl h

  expire_at_moves : (name : HolderName) (number : ℕ) (o : Option ℕ) (s new : State) (cs : Choices)
      → holder_place net name ≡ o → expire_at net o number s cs ≡ Ok new → Moves net classes packets s new
  expire_at_moves name number None s new cs n h = absurd (cc)
  expire_at_moves name number (Some holder) s new cs n h =
      expire_from_moves name holder number (slice_get s.held holder) s new cs n refl h

  arrive_moves : (link number : ℕ) (rs : List Record) (o : Option Record) (s new : State) (cs : Choices)
      → slice_get s.carried link ≡ Some rs → entry_numbered rs number ≡ o → after_arrive net link rs number o s cs
      ≡ Ok new → Moves net classes packets s new
  arrive_moves link number rs None s new cs e k h = absurd (cc)
  arrive_moves link number rs (Some r) s new cs e k h =
      arrives link number rs r e k (acts_may net r.counts (acts_of_arrival net r.key (slice_get net.links link))
      (record { state = record s { carried = slice_set s.carried link (without rs number) }; choices = cs }) new h)

  arrive_from_moves : (link number : ℕ) (o : Option (List Record)) (s new : State) (cs : Choices)
      → slice_get s.carried link ≡ o → arrive_from net link o number s cs ≡ Ok new → Moves net classes packets s new
  arrive_from_moves link number None s new cs e h = absurd (cc)
  arrive_from_moves link number (Some rs) s new cs e h =
      arrive_moves link number rs (entry_numbered rs number) s new cs e refl h

  arrive_at_moves : (link number : ℕ) (s new : State) (cs : Choices) → arrive_at net (link_place link) number s cs
      ≡ Ok new → Moves net classes packets s new
  arrive_at_moves zero number s new cs h = absurd (cc)
  arrive_at_moves (suc link) number s new cs h =
      arrive_from_moves link number (slice_get s.carried link) s new cs refl h

  -- each step is a move
  pub step_is_move : (step : Step) (s new : State) → after net classes packets step s ≡ Ok new
      → Moves net classes packets s new
  step_is_move (Cross packet crossing cs) s new h =
      cross_moves packet crossing (entry_numbered packets packet) (place s.coming packet crossing) s new cs refl refl h
  step_is_move (Expire name number cs) s new h = expire_at_moves name number (holder_place net name) s new cs refl h
  step_is_move (Arrive link number cs) s new h = arrive_at_moves link number s new cs h
