-- Each act adds its weight to the quantity.
use Rattle.std.proofs.Common.{◌≡◌, ◌≢◌, inl, inr, ℕ, zero, suc, ◌+◌, true, false, cond, List, [], ◌∷◌, ◌++◌, map, length, Option, Some, None, Ok, refl, sym, ap, ◌∙◌, subst, arith, slice_get, slice_set, length-set}
use Rattle.std.proofs.lemmas.Bool.{cases_lt}
use Rattle.std.proofs.lemmas.Option.{slice_get_past}
use Rattle.fx_base.specs.declared.counts.Counts.{Counts}
use Rattle.fx_base.specs.Counts.{add_counts}
use Rattle.fx_layout.specs.Keys.{Key, refines, project, same_key}
use Rattle.fx_layout.proofs.Projections.{same_key_is}
use Rattle.fx_machine.proofs.Lists.{put_last_past, length_put_last}
use Rattle.fx_tables.specs.declared.record.Record.{Record}
use Rattle.fx_tables.specs.declared.packet.Packet.{Packet}
use Rattle.fx_base.specs.Entries.{entry_numbered}
use Rattle.fx_tables.specs.Network.{Exporter, Net}
use Rattle.fx_tables.specs.Classes.{Class}
use Rattle.fx_machine.specs.States.{State, after_tally, put_last, sent_to, sent_to_all, add_at, with_entry, Coming}
use Rattle.fx_machine.specs.Acts.{Choices, Act, Tally, Send, Hold, Made, sent_to_chosen, send_by_choice, records_joining, taken_in, with_held, hold_in, hold, act, act_all, all_used}
use Rattle.fx_machine.specs.Sums.{total_at}
use Rattle.fx_leaf.specs.declared.verdict.Fate.{Fate}
use Rattle.fx_leaf.specs.declared.verdict.Fate.TheVariants.{Never, Once, Many, Differing, Unassigned}
use Rattle.fx_leaf.specs.Fates.{FateAt, all_happen, one_happens, process_fate, destination_fate, send_fate, held_fate, act_fate}
use Rattle.fx_leaf.specs.Quantity.{Weight, Wrong, Nothing, Counted, plus, weigh_all, weigh_each, part_of, by_fate, key_of_act, act_weight, held_weight, carried_weight, coming_weight, total_weight, unassigned_weight, quantity_by}
pub use Rattle.fx_leaf.specs.Laws.{IsSized}
use Rattle.fx_leaf.proofs.Weights.{plus_assoc, plus_nothing, left_right, right_right, in_front, behind, weigh_last, weigh_replaced, weigh_each_set, weigh_put_last}
use Rattle.fx_leaf.proofs.FateLaws.{IsGood, good_of_weight, every_same, all_weighed, any_choice}
use Rattle.fx_leaf.proofs.Totals.{add_at_total}

module _ (at : FateAt) (net : Net) (classes : List Class) (packets : List Packet) (total : Key) where
  abbrev Q : State → Weight
  Q s = quantity_by at net classes packets total s

  -- the state has this weight more
  pub record Gains (s : State) (w : Weight) (new : State) : Type 0 where
    pub gained : Q new ≡ plus (Q s) w
    pub sized : IsSized net new

  -- more weight at one of the places
  more_totals : (u t h c k w t' : Weight) → t' ≡ plus t w → plus u (plus t' (plus h (plus c k)))
      ≡ plus (plus u (plus t (plus h (plus c k)))) w
  more_totals u t h c k w t' e =
      ap (λ v. plus u (plus v (plus h (plus c k)))) e ∙ ap (plus u) (in_front t (plus h (plus c k)) w)
      ∙ behind u (plus t (plus h (plus c k))) w

  more_held : (u t h c k w h' : Weight) → h' ≡ plus h w → plus u (plus t (plus h' (plus c k)))
      ≡ plus (plus u (plus t (plus h (plus c k)))) w
  more_held u t h c k w h' e =
      ap (λ v. plus u (plus t (plus v (plus c k)))) e ∙ ap (λ v. plus u (plus t v)) (in_front h (plus c k) w)
      ∙ ap (plus u) (behind t (plus h (plus c k)) w) ∙ behind u (plus t (plus h (plus c k))) w

  more_carried : (u t h c k w c' : Weight) → c' ≡ plus c w → plus u (plus t (plus h (plus c' k)))
      ≡ plus (plus u (plus t (plus h (plus c k)))) w
  more_carried u t h c k w c' e =
      ap (λ v. plus u (plus t (plus h (plus v k)))) e ∙ ap (λ v. plus u (plus t (plus h v))) (in_front c k w)
      ∙ ap (λ v. plus u (plus t v)) (behind h (plus c k) w) ∙ ap (plus u) (behind t (plus h (plus c k)) w)
      ∙ behind u (plus t (plus h (plus c k))) w

  -- the same, of states
  pub totals_more : (s : State) (ts : List Record) (w : Weight) → total_weight (total_at ts total)
      ≡ plus (total_weight (total_at s.totals total)) w → Q (record s { totals = ts }) ≡ plus (Q s) w
  totals_more s ts w e =
      more_totals (unassigned_weight s.unassigned) (total_weight (total_at s.totals total))
      (weigh_each (held_weight at net total) s.held) (weigh_each (carried_weight at net total) s.carried)
      (weigh_all (coming_weight at net classes packets total) s.coming) w (total_weight (total_at ts total)) e

  pub held_more : (s : State) (rss : List (List Record)) (w : Weight) → weigh_each (held_weight at net total) rss
      ≡ plus (weigh_each (held_weight at net total) s.held) w → Q (record s { held = rss }) ≡ plus (Q s) w
  held_more s rss w e =
      more_held (unassigned_weight s.unassigned) (total_weight (total_at s.totals total))
      (weigh_each (held_weight at net total) s.held) (weigh_each (carried_weight at net total) s.carried)
      (weigh_all (coming_weight at net classes packets total) s.coming) w
      (weigh_each (held_weight at net total) rss) e

  pub carried_more : (s : State) (rss : List (List Record)) (w : Weight) → weigh_each (carried_weight at net total) rss
      ≡ plus (weigh_each (carried_weight at net total) s.carried) w → Q (record s { carried = rss }) ≡ plus (Q s) w
  carried_more s rss w e =
      more_carried (unassigned_weight s.unassigned) (total_weight (total_at s.totals total))
      (weigh_each (held_weight at net total) s.held) (weigh_each (carried_weight at net total) s.carried)
      (weigh_all (coming_weight at net classes packets total) s.coming) w
      (weigh_each (carried_weight at net total) rss) e

  pub coming_more : (s : State) (cs : List Coming) (w : Weight)
      → weigh_all (coming_weight at net classes packets total) cs
      ≡ plus (weigh_all (coming_weight at net classes packets total) s.coming) w → Q (record s { coming = cs })
      ≡ plus (Q s) w
  coming_more s cs w e =
      let u = unassigned_weight s.unassigned in
      let t = total_weight (total_at s.totals total) in
      let h = weigh_each (held_weight at net total) s.held in
      let c = weigh_each (carried_weight at net total) s.carried in
      let k = weigh_all (coming_weight at net classes packets total) s.coming in
      ap (λ v. plus u (plus t (plus h (plus c v)))) e ∙ ap (λ v. plus u (plus t (plus h v))) (behind c k w)
      ∙ ap (λ v. plus u (plus t v)) (behind h (plus c k) w) ∙ ap (plus u) (behind t (plus h (plus c k)) w)
      ∙ behind u (plus t (plus h (plus c k))) w

  -- a record is sent to a destination
  sent_gains : (d : Option ℕ) (r : Record) (s : State) → IsSized net s
      → Gains s (by_fate (destination_fate at net r.key d) (part_of net total r.key r.counts)) (sent_to d r s)
  sent_gains None r s z = record { gained = sym (plus_nothing (Q s)); sized = z }
  sent_gains (Some link) r s z =
      let w = by_fate (process_fate at r.key (slice_get net.links link)) (part_of net total r.key r.counts) in
      let same_size : length (put_last s.carried link r) ≡ length net.links = length_put_last s.carried link r
      ∙ z.carried in
      record {
        gained = elim (cases_lt link (length s.carried)) [
          | inl lt ↦ carried_more s (put_last s.carried link r) w
              (weigh_put_last (carried_weight at net total) s.carried link r w lt
              (λ rs. weigh_last (λ x. by_fate (process_fate at x.key (slice_get net.links link))
              (part_of net total x.key x.counts)) rs r))
          | inr le ↦
              let none : slice_get net.links link ≡ None = slice_get_past net.links link (omega (arith, z.carried)) in
              let nothing : w ≡ Nothing = ap (λ o. by_fate (process_fate at r.key o) (part_of net total r.key r.counts))
              none in
              ap (λ rss. Q (record s { carried = rss })) (put_last_past s.carried link r le)
              ∙ sym (ap (plus (Q s)) nothing ∙ plus_nothing (Q s))
        ];
        sized = record { held = z.held; carried = same_size };
      }

  -- one gain and then another
  gains_on : (s mid new : State) (v w x : Weight) → plus v w ≡ x → Gains s v mid → Gains mid w new → Gains s x new
  gains_on s mid new v w x e g h =
      record {
        gained = h.gained ∙ ap (λ q. plus q w) g.gained ∙ plus_assoc (Q s) v w ∙ ap (plus (Q s)) e;
        sized = h.sized;
      }

  sent_all_gains : (ds : List (Option ℕ)) (r : Record) (s : State) → IsSized net s
      → Gains s (weigh_all (λ d. by_fate (destination_fate at net r.key d) (part_of net total r.key r.counts)) ds)
      (sent_to_all ds r s)
  sent_all_gains [] r s z = record { gained = sym (plus_nothing (Q s)); sized = z }
  sent_all_gains (d ∷ ds) r s z =
      let one = sent_gains d r s z in
      gains_on s (sent_to d r s) (sent_to_all ds r (sent_to d r s)) _ _ _ refl one
      (sent_all_gains ds r (sent_to d r s) one.sized)

  chosen_gains : (ds : List (Option ℕ)) (n : ℕ) (key : Key) (counts : Counts) (s : State) (choices : Choices)
      (made : Made) (o : Option (Option ℕ)) → entry_numbered ds n ≡ o → IsSized net s
      → IsGood (one_happens (map (destination_fate at net key) ds))
      → sent_to_chosen o (record { key = key; counts = counts }) s choices ≡ Some made
      → Gains s (by_fate (one_happens (map (destination_fate at net key) ds)) (part_of net total key counts)) made.state
  chosen_gains ds n key counts s choices made None is z good h = absurd (cc)
  chosen_gains ds zero key counts s choices made (Some d) is z good h = absurd (cc)
  chosen_gains ds (suc n) key counts s choices made (Some d) is z good h =
      let r : Record = record { key = key; counts = counts } in
      let same : sent_to d r s ≡ made.state = cc in
      let fate_is = any_choice (destination_fate at net key) ds n d is good in
      subst (λ new. Gains s (by_fate (one_happens (map (destination_fate at net key) ds))
      (part_of net total key counts)) new) same
      (subst (λ f. Gains s (by_fate f (part_of net total key counts)) (sent_to d r s)) fate_is (sent_gains d r s z))

  choice_gains : (ds : List (Option ℕ)) (key : Key) (counts : Counts) (s : State) (choices : Choices) (made : Made)
      → IsSized net s → IsGood (one_happens (map (destination_fate at net key) ds))
      → send_by_choice ds (record { key = key; counts = counts }) s choices ≡ Some made
      → Gains s (by_fate (one_happens (map (destination_fate at net key) ds)) (part_of net total key counts)) made.state
  choice_gains ds key counts s [] made z good h = absurd (cc)
  choice_gains ds key counts s (None ∷ choices) made z good h = absurd (cc)
  choice_gains ds key counts s (Some n ∷ choices) made z good h =
      chosen_gains ds n key counts s choices made (entry_numbered ds n) refl z good h

  -- an exporting process sends a record
  send_gains : (e : Exporter) (key : Key) (counts : Counts) (s : State) (choices : Choices) (made : Made)
      → IsSized net s → IsGood (send_fate at net key e) → act net counts (Send e key) s choices ≡ Some made
      → Gains s (by_fate (send_fate at net key e) (part_of net total key counts)) made.state
  send_gains e key counts s choices made z good h =
      let r : Record = record { key = key; counts = counts } in
      let w = part_of net total key counts in
      let fates = map (destination_fate at net key) e.destinations in
      elim e.parallel as (λ b. IsGood (cond b (all_happen fates) (one_happens fates))
      → cond b (Some (record { state = sent_to_all e.destinations r s; choices = choices }))
      (send_by_choice e.destinations r s choices) ≡ Some made
      → Gains s (by_fate (cond b (all_happen fates) (one_happens fates)) w) made.state) [
        | true ↦ λ g k.
            let same : sent_to_all e.destinations r s ≡ made.state = cc in
            let sum = all_weighed (destination_fate at net key) (λ d. w) w e.destinations
            (every_same (destination_fate at net key) (λ d. w) w e.destinations (λ d. refl)) g in
            subst (λ n. Gains s (by_fate (all_happen fates) w) n) same
            (subst (λ x. Gains s x (sent_to_all e.destinations r s)) sum (sent_all_gains e.destinations r s z))
        | false ↦ λ g k. choice_gains e.destinations key counts s choices made z g k
      ] good h

  abbrev pub record_weight : ℕ → Record → Weight
  record_weight holder r = by_fate (held_fate at net r.key (slice_get net.holders holder))
      (part_of net total r.key r.counts)

  part_adds : (key : Key) (a b : Counts) → part_of net total key (add_counts a b)
      ≡ plus (part_of net total key a) (part_of net total key b)
  part_adds key a b =
      elim (same_key (project key net.report_layout) total)
      as (λ t. cond t (Counted (add_counts a b)) Nothing
      ≡ plus (cond t (Counted a) Nothing) (cond t (Counted b) Nothing)) [ true ↦ refl | false ↦ refl ]

  fate_adds : (f : Fate) (v w x : Weight) → x ≡ plus v w → by_fate f x ≡ plus (by_fate f v) (by_fate f w)
  fate_adds Never v w x e = refl
  fate_adds Once v w x e = e
  fate_adds Many v w x e = refl
  fate_adds Differing v w x e = refl
  fate_adds Unassigned v w x e = refl

  -- a record that joins another of its key
  join_weight : (holder : ℕ) (old r : Record) → old.key ≡ r.key
      → record_weight holder (record { key = old.key; counts = add_counts old.counts r.counts })
      ≡ plus (record_weight holder old) (record_weight holder r)
  join_weight holder old r e =
      fate_adds (held_fate at net old.key (slice_get net.holders holder)) (part_of net total old.key old.counts)
      (part_of net total old.key r.counts) (part_of net total old.key (add_counts old.counts r.counts))
      (part_adds old.key old.counts r.counts)
      ∙ ap (λ k. plus (record_weight holder old)
      (by_fate (held_fate at net k (slice_get net.holders holder)) (part_of net total k r.counts))) e

  joined_weight : (holder : ℕ) (rs : List Record) (n : ℕ) (r : Record) (o : Option Record) (new : List Record)
      → entry_numbered rs n ≡ o → records_joining o rs n r ≡ Some new → held_weight at net total holder new
      ≡ plus (held_weight at net total holder rs) (record_weight holder r)
  joined_weight holder rs n r None new is h = absurd (cc)
  joined_weight holder rs n r (Some old) new is h =
      let sum : Record = record { key = old.key; counts = add_counts old.counts r.counts } in
      elim (same_key old.key r.key) as (λ b. same_key old.key r.key ≡ b → cond b (Some (with_entry rs n sum)) None
      ≡ Some new → held_weight at net total holder new
      ≡ plus (held_weight at net total holder rs) (record_weight holder r)) [
        | true ↦ λ e k.
            let same : with_entry rs n sum ≡ new = cc in
            ap (held_weight at net total holder) (sym same)
            ∙ weigh_replaced (record_weight holder) rs n old sum (record_weight holder r) is
            (join_weight holder old r (same_key_is old.key r.key e))
        | false ↦ λ e k. absurd (cc)
      ] refl h

  taken_weight : (holder : ℕ) (rs : List Record) (choice : Option ℕ) (r : Record) (new : List Record)
      → taken_in rs choice r ≡ Some new → held_weight at net total holder new
      ≡ plus (held_weight at net total holder rs) (record_weight holder r)
  taken_weight holder rs None r new h =
      let same : rs ++ r ∷ [] ≡ new = cc in
      ap (held_weight at net total holder) (sym same) ∙ weigh_last (record_weight holder) rs r
  taken_weight holder rs (Some n) r new h = joined_weight holder rs n r (entry_numbered rs n) new refl h

  -- a holder takes a record in
  held_gains : (holder : ℕ) (r : Record) (s : State) (rs : List Record) (choice : Option ℕ) (choices : Choices)
      (made : Made) (o : Option (List Record)) → slice_get s.held holder ≡ Some rs → taken_in rs choice r ≡ o
      → IsSized net s → with_held s holder o choices ≡ Some made → Gains s (record_weight holder r) made.state
  held_gains holder r s rs choice choices made None is t z h = absurd (cc)
  held_gains holder r s rs choice choices made (Some new) is t z h =
      let next : State = record s { held = slice_set s.held holder new } in
      let same : next ≡ made.state = cc in
      subst (λ n. Gains s (record_weight holder r) n) same (record {
        gained = held_more s (slice_set s.held holder new) (record_weight holder r)
            (weigh_each_set (held_weight at net total) s.held holder rs new (record_weight holder r) is
            (taken_weight holder rs choice r new t));
        sized = record { held = length-set s.held holder new ∙ z.held; carried = z.carried };
      })

  hold_in_gains : (holder : ℕ) (r : Record) (s : State) (o : Option (List Record)) (choice : Option ℕ)
      (choices : Choices) (made : Made) → slice_get s.held holder ≡ o → IsSized net s
      → hold_in o holder r s choice choices ≡ Some made → Gains s (record_weight holder r) made.state
  hold_in_gains holder r s None choice choices made is z h = absurd (cc)
  hold_in_gains holder r s (Some rs) choice choices made is z h =
      held_gains holder r s rs choice choices made (taken_in rs choice r) is refl z h

  hold_gains : (holder : ℕ) (r : Record) (s : State) (choices : Choices) (made : Made) → IsSized net s
      → hold holder r s choices ≡ Some made → Gains s (record_weight holder r) made.state
  hold_gains holder r s [] made z h = absurd (cc)
  hold_gains holder r s (choice ∷ choices) made z h =
      hold_in_gains holder r s (slice_get s.held holder) choice choices made refl z h

  -- a record is tallied
  tally_gains : (key : Key) (counts : Counts) (s : State) → IsSized net s → IsGood (act_fate at net (Tally key))
      → Gains s (act_weight at net total counts (Tally key)) (after_tally net key counts s)
  tally_gains key counts s z good =
      let yes : State = record s { totals = add_at s.totals (project key net.report_layout) counts } in
      let no : State = record s { unassigned = s.unassigned + 1 } in
      elim (refines key.layout net.report_layout)
      as (λ b. IsGood (cond b Once Unassigned)
      → Gains s (by_fate (cond b Once Unassigned) (part_of net total key counts)) (cond b yes no)) [
        | true ↦ λ g. record {
          gained = totals_more s (add_at s.totals (project key net.report_layout) counts) (part_of net total key counts)
              (add_at_total s.totals (project key net.report_layout) counts total);
          sized = record { held = z.held; carried = z.carried };
        }
        | false ↦ λ g. elim g [ ]
      ] good

  -- each act
  pub act_gains : (counts : Counts) (a : Act) (s : State) (choices : Choices) (made : Made) → IsSized net s
      → IsGood (act_fate at net a) → act net counts a s choices ≡ Some made
      → Gains s (act_weight at net total counts a) made.state
  act_gains counts (Tally key) s choices made z good h =
      let same : after_tally net key counts s ≡ made.state = cc in
      subst (λ n. Gains s (act_weight at net total counts (Tally key)) n) same (tally_gains key counts s z good)
  act_gains counts (Send e key) s choices made z good h = send_gains e key counts s choices made z good h
  act_gains counts (Hold holder key) s choices made z good h =
      hold_gains holder (record { key = key; counts = counts }) s choices made z h

  all_used_is : (choices : Choices) (s new : State) → all_used choices s ≡ Ok new → s ≡ new
  all_used_is [] s new h = cc
  all_used_is (choice ∷ choices) s new h = absurd (cc)

  next_gains : (counts : Counts) (a : Act) (acts : List Act) (made : Made) (new : State) (o : Option Made)
      → ((next : Made) → IsSized net next.state → act_all net counts acts (Some next) ≡ Ok new
      → Gains next.state (weigh_all (act_weight at net total counts) acts) new)
      → act net counts a made.state made.choices ≡ o → IsSized net made.state → IsGood (act_fate at net a)
      → act_all net counts acts o ≡ Ok new → Gains made.state
      (plus (act_weight at net total counts a) (weigh_all (act_weight at net total counts) acts)) new
  next_gains counts a [] made new None rest is z good h = absurd (cc)
  next_gains counts a (b ∷ acts) made new None rest is z good h = absurd (cc)
  next_gains counts a acts made new (Some next) rest is z good h =
      let one = act_gains counts a made.state made.choices next z good is in
      gains_on made.state next.state new _ _ _ refl one (rest next one.sized h)

  -- acts one after another
  pub acts_gain : (counts : Counts) (acts : List Act) (made : Made) (new : State) → IsSized net made.state
      → weigh_all (act_weight at net total counts) acts ≢ Wrong → act_all net counts acts (Some made) ≡ Ok new
      → Gains made.state (weigh_all (act_weight at net total counts) acts) new
  acts_gain counts [] made new z good h =
      let two : made.state ≡ new = all_used_is made.choices made.state new h in
      subst (λ n. Gains made.state Nothing n) two (record { gained = sym (plus_nothing (Q made.state)); sized = z })
  acts_gain counts (a ∷ acts) made new z good h =
      let w = act_weight at net total counts a in
      let ws = weigh_all (act_weight at net total counts) acts in
      next_gains counts a acts made new (act net counts a made.state made.choices)
      (λ next. λ y. λ k. acts_gain counts acts next new y (right_right w ws good) k) refl z
      (good_of_weight (act_fate at net a) (part_of net total (key_of_act a) counts) (left_right w ws good)) h
