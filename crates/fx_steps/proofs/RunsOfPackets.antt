-- A run of one packet, from the way in which it comes to a fate: what was put last leaves first.
use Rattle.std.proofs.Common.{◌≡◌, ℕ, suc, ◌+◌, ◌<◌, ◌≤◌, Bool, true, false, cond, ◌&&◌, ◌==◌, List, [], ◌∷◌, ◌++◌, map, filter, length, length-append, Option, Some, None, Ok, Err, refl, sym, ap, ap₂, ◌∙◌, subst, arith, slice_get, slice_set, length-set}
use Rattle.std.specs.List.{list_all}
use Rattle.fx_layout.specs.Keys.{Key, Fits, key_of, refines, project, reads, bits_on}
use Rattle.fx_layout.proofs.Projections.{and_true, project_key}
use Rattle.fx_tables.specs.declared.record.Record.{Record}
use Rattle.fx_tables.specs.declared.packet.Packet.{Packet}
use Rattle.fx_run_text.specs.declared.step.Step.{Step}
use Rattle.fx_run_text.specs.declared.step.Step.TheVariants.{Expire, Arrive}
use Rattle.fx_tables.specs.declared.observation.Occurrence.{Occurrence}
use Rattle.fx_tables.specs.Network.{Net, AggregationEntry, Process, at_places, exporters_of, layout_of, takes}
use Rattle.fx_base.specs.Entries.{entry_numbered}
use Rattle.fx_tables.specs.Classes.{Class}
use Rattle.fx_machine.specs.States.{State, after_tally, put_last, add_at}
use Rattle.fx_machine.specs.Acts.{Choices, Act, Tally, Send, Hold, Outcome, all_acts, act_all, hold_in, sent_to_chosen}
use Rattle.fx_machine.specs.Steps.{run, then_run, after, meet, acts_of_leaving, acts_of_arrival, coming_to, acts_of, take_in, one_packet, after_expire, expire_from, expire_at, after_arrive, arrive_from}
use Rattle.fx_tables.specs.Ranks.{IsNetwork}
use Rattle.fx_leaf.specs.declared.verdict.Fate.{Fate}
use Rattle.fx_leaf.specs.declared.verdict.Fate.TheVariants.{Never, Once, Unassigned}
use Rattle.fx_leaf.specs.Fates.{both}
use Rattle.fx_leaf.specs.Laws.{IsSized}
use Rattle.fx_leaf.specs.Quantity.{key_of_act}
use Rattle.fx_leaf.proofs.FateLaws.{Every, every_append}
use Rattle.fx_leaf.proofs.Steps.{every_map, every_map_filter}
use Rattle.fx_machine.proofs.Lists.{length_put_last}
use Rattle.fx_machine.proofs.TallyCounts.{arriving_count, leaving_count, tally_count}
use Rattle.fx_steps.specs.Playing.{totals_with, fate_of}
use Rattle.fx_tables.specs.Runnable.{IsHolder}
use Rattle.fx_steps.specs.Ways.{tally_fate}
use Rattle.fx_steps.specs.Chains.{Chain, all_of, any_of}
use Rattle.fx_steps.specs.Chains.Chain.{no_act, tally, hold, send_end, send_out, send_on, choose}
use Rattle.fx_steps.proofs.Places.{there, set_here, set_back, last_here, last_removed, put_here, put_back}
use Rattle.fx_steps.proofs.Tallies.{times_on, fate_once, fates_both}

module _ (net : Net) (classes : List Class) (p : Packet) (network : IsNetwork net) where
  abbrev own_key : Key
  own_key = key_of net.report_layout p.fields

  -- the packet was tallied so many times, and so many of its records were unassigned
  abbrev pub counted : ℕ → ℕ → State → State
  counted t u s = record s { totals = totals_with t own_key (one_packet p) s.totals; unassigned = s.unassigned + u }

  abbrev pub goes : List Step → State → Outcome
  goes steps s = run net classes (p ∷ []) steps s

  -- the key is the packet's under its layout
  pub record IsOwn (key : Key) : Type 0 where
    pub is : key ≡ key_of key.layout p.fields
    pub fits : Fits key.layout

  -- acts with their choices, and the steps that follow from them
  pub record Played (acts : List Act) (f : Fate) (n : ℕ) (s : State) : Type 0 where
    pub choices : Choices
    pub mid : State
    pub made : all_acts net (one_packet p) acts s choices ≡ Ok mid
    pub steps : List Step
    pub tallies : ℕ
    pub lost : ℕ
    pub ends : goes steps mid ≡ Ok (counted tallies lost s)
    pub number : length steps ≡ n
    pub fate_is : fate_of tallies lost ≡ f
    pub few : tallies ≤ n + tally_count acts

  -- ---- runs, one behind the other

  pub run_on : (xs ys : List Step) (s : State) (o : Outcome) (end : Outcome) → goes xs s ≡ o
      → ((mid : State) → o ≡ Ok mid → goes ys mid ≡ end) → (mid : State) → o ≡ Ok mid → goes (xs ++ ys) s ≡ end
  run_on [] ys s o end h k mid e = k s (sym h)
  run_on (x ∷ xs) ys s o end h k mid e =
      elim (after net classes (p ∷ []) x s) as (λ (r : Outcome). then_run r (run net classes (p ∷ []) xs) ≡ o
      → then_run r (run net classes (p ∷ []) (xs ++ ys)) ≡ end) [
        | Ok next ↦ λ h. run_on xs ys next o end h k mid e
        | Err number ↦ λ h. absurd (let bad : Err number ≡ Ok mid = h ∙ e in cc)
      ] h

  pub run_both : (xs ys : List Step) (s mid new : State) → goes xs s ≡ Ok mid → goes ys mid ≡ Ok new → goes (xs ++ ys) s
      ≡ Ok new
  run_both xs ys s mid new h k =
      run_on xs ys s (Ok mid) (Ok new) h (λ m e. let same : m ≡ mid = cc in
      subst (λ x. goes ys x ≡ Ok new) (sym same) k) mid refl

  pub counted_on : (t u v w : ℕ) (s : State) → counted v w (counted t u s) ≡ counted (t + v) (u + w) s
  counted_on t u v w s =
      let e : s.unassigned + u + w ≡ s.unassigned + (u + w) = omega arith in
      ap₂ (λ (ts : List Record) (n : ℕ). record s { totals = ts; unassigned = n })
      (times_on t v own_key (one_packet p) s.totals) e

  -- ---- a record leaves where it was put last

  pub expires : (holder : ℕ) (h : IsHolder net holder) (rs : List Record) (r : Record) (s : State) (choices : Choices)
      → slice_get s.held holder ≡ Some rs → after net classes (p ∷ []) (Expire h.name (suc (length rs)) choices)
      (record s { held = slice_set s.held holder (rs ++ r ∷ []) })
      ≡ all_acts net r.counts (acts_of_leaving net holder r.key) s choices
  expires holder h rs r s choices at =
      let now = slice_set s.held holder (rs ++ r ∷ []) in
      ap (λ o. expire_at net o (suc (length rs)) (record s { held = now }) choices) h.named
      ∙ ap (λ o. expire_from net holder o (suc (length rs)) (record s { held = now }) choices)
      (set_here s.held holder rs (rs ++ r ∷ []) at)
      ∙ ap (λ o. after_expire net holder (rs ++ r ∷ []) (suc (length rs)) o (record s { held = now }) choices)
      (last_here rs r)
      ∙ ap (λ (less : List Record). all_acts net r.counts (acts_of_leaving net holder r.key)
      (record s { held = slice_set now holder less }) choices) (last_removed rs r)
      ∙ ap (λ (rss : List (List Record)). all_acts net r.counts (acts_of_leaving net holder r.key)
      (record s { held = rss }) choices) (set_back s.held holder rs (rs ++ r ∷ []) at)

  pub arrives : (link : ℕ) (rs : List Record) (r : Record) (s : State) (choices : Choices) → slice_get s.carried link
      ≡ Some rs → after net classes (p ∷ []) (Arrive (suc link) (suc (length rs)) choices)
      (record s { carried = put_last s.carried link r })
      ≡ all_acts net r.counts (acts_of_arrival net r.key (slice_get net.links link)) s choices
  arrives link rs r s choices at =
      let now = put_last s.carried link r in
      let acts = acts_of_arrival net r.key (slice_get net.links link) in
      ap (λ o. arrive_from net link o (suc (length rs)) (record s { carried = now }) choices)
      (put_here s.carried link rs r at)
      ∙ ap (λ o. after_arrive net link (rs ++ r ∷ []) (suc (length rs)) o (record s { carried = now }) choices)
      (last_here rs r)
      ∙ ap (λ (less : List Record). all_acts net r.counts acts (record s { carried = slice_set now link less }) choices)
      (last_removed rs r)
      ∙ ap (λ (rss : List (List Record)). all_acts net r.counts acts (record s { carried = rss }) choices)
      (put_back s.carried link rs r at)

  -- ---- acts on keys of the packet

  pub OwnAct : Act → Type 0
  OwnAct a = IsOwn (key_of_act a)

  pub projected : (key : Key) (layout : List _) → IsOwn key → refines key.layout layout ≡ true → project key layout
      ≡ key_of layout p.fields
  projected key layout own r = ap (λ k. project k layout) own.is ∙ project_key key.layout layout p.fields own.fits r

  pub leaving_own : (holder : ℕ) (key : Key) → IsOwn key → Every OwnAct (acts_of_leaving net holder key)
  unfolding OwnAct
  leaving_own holder key own = every_map OwnAct (λ e. Send e key) (exporters_of net (slice_get net.holders holder))
      (λ e. own)

  -- a packet's own acts at a crossing
  pub met_own : (os : List Occurrence) → Every OwnAct (map (meet net p.fields) os)
  unfolding OwnAct
  met_own os = every_map OwnAct (meet net p.fields) os (λ o. record { is = refl; fits = network.fits o.holder })

  taken_own : (key : Key) → IsOwn key → (a : AggregationEntry) → takes net key a ≡ true → OwnAct (take_in net key a)
  unfolding OwnAct
  taken_own key own a t =
      let layout = layout_of (slice_get net.holders a.holder) in
      let both' = and_true (refines key.layout layout)
      (list_all (λ e. reads key.layout e.axis e.bits && bits_on key e.axis e.bits == e.value) a.matches) t in
      record { is = projected key layout own both'.0; fits = network.fits a.holder }

  handled_own : (key : Key) → IsOwn key → (o : Option Process) → Every OwnAct (acts_of net key o)
  unfolding OwnAct
  handled_own key own None = tt
  handled_own key own (Some process) =
      every_append OwnAct (map (λ e. Send e key) (at_places net.exporters process.exporters))
      (map (take_in net key) (filter (takes net key) process.aggregations))
      (every_map OwnAct (λ e. Send e key) (at_places net.exporters process.exporters) (λ e. own))
      (every_map_filter OwnAct (take_in net key) (takes net key) process.aggregations (taken_own key own))

  coming_own : (key : Key) → IsOwn key → (process : ℕ) → Every OwnAct (coming_to net key process)
  unfolding OwnAct
  coming_own key own process =
      let rest = handled_own key own (slice_get net.processes process) in
      elim (process == net.report) as (λ b. Every OwnAct
      (cond b (Tally key ∷ []) [] ++ acts_of net key (slice_get net.processes process))) [
        | true ↦ (own, rest)
        | false ↦ rest
      ]

  pub arriving_own : (key : Key) → IsOwn key → (o : Option ℕ) → Every OwnAct (acts_of_arrival net key o)
  unfolding OwnAct
  arriving_own key own None = tt
  arriving_own key own (Some process) = coming_own key own process

  -- ---- the acts, one after another

  abbrev Rest : List Act → Fate → ℕ → Type 0
  Rest acts f n = (s : State) → IsSized net s → Played acts f n s

  nothing_played : (s : State) → Played [] Never 0 s
  nothing_played s =
      let e : s.unassigned ≡ s.unassigned + 0 = omega arith in
      record {
        choices = [];
        mid = s;
        made = refl;
        steps = [];
        tallies = 0;
        lost = 0;
        ends = ap (λ (n : ℕ). Ok (record s { unassigned = n })) e;
        number = refl;
        fate_is = refl;
        few = omega arith;
      }

  tally_played : (key : Key) (acts : List Act) (f : Fate) (n : ℕ) → IsOwn key → Rest acts f n → (b : Bool)
      → refines key.layout net.report_layout ≡ b → Rest (Tally key ∷ acts) (both (tally_fate net key) f) n
  tally_played key acts f n own rest true e s z =
      let to = project key net.report_layout in
      let yes : State → State → State = λ a b. b in
      let next : State = record s { totals = add_at s.totals own_key (one_packet p) } in
      let first : after_tally net key (one_packet p) s ≡ next =
      ap (λ b. cond b (record s { totals = add_at s.totals to (one_packet p) })
      (record s { unassigned = s.unassigned + 1 })) e
      ∙ ap (λ k. record s { totals = add_at s.totals k (one_packet p) }) (projected key net.report_layout own e) in
      let fate : tally_fate net key ≡ Once = ap (λ b. cond b Once Unassigned) e in
      let r = rest next (record { held = z.held; carried = z.carried }) in
      record {
        choices = r.choices;
        mid = r.mid;
        made = ap (λ x. all_acts net (one_packet p) acts x r.choices) first ∙ r.made;
        steps = r.steps;
        tallies = suc r.tallies;
        lost = r.lost;
        ends = r.ends;
        number = r.number;
        fate_is = fate_once r.tallies r.lost ∙ ap₂ both (sym fate) r.fate_is;
        few = let k = r.few in omega arith;
      }
  tally_played key acts f n own rest false e s z =
      let to = project key net.report_layout in
      let next : State = record s { unassigned = s.unassigned + 1 } in
      let first : after_tally net key (one_packet p) s ≡ next =
      ap (λ b. cond b (record s { totals = add_at s.totals to (one_packet p) })
      (record s { unassigned = s.unassigned + 1 })) e in
      let fate : tally_fate net key ≡ Unassigned = ap (λ b. cond b Once Unassigned) e in
      let r = rest next (record { held = z.held; carried = z.carried }) in
      let more : s.unassigned + 1 + r.lost ≡ s.unassigned + suc r.lost = omega arith in
      record {
        choices = r.choices;
        mid = r.mid;
        made = ap (λ x. all_acts net (one_packet p) acts x r.choices) first ∙ r.made;
        steps = r.steps;
        tallies = r.tallies;
        lost = suc r.lost;
        ends = r.ends ∙ ap (λ (n : ℕ). Ok (record s
            { totals = totals_with r.tallies own_key (one_packet p) s.totals; unassigned = n })) more;
        number = r.number;
        fate_is = ap (λ g. both g f) (sym fate);
        few = let k = r.few in omega arith;
      }

  -- the records of the other acts leave first, then this one by a step, and then what it becomes
  join : (all acts inner : List Act) (f g : Fate) (m n : ℕ) (s next : State) (later : Played acts g n next)
      (step : Choices → Step) (choices : Choices) → all_acts net (one_packet p) all s choices ≡ Ok later.mid
      → ((t u : ℕ) (cs : Choices) → after net classes (p ∷ []) (step cs) (counted t u next)
      ≡ all_acts net (one_packet p) inner (counted t u s) cs) → tally_count inner ≤ 1 → tally_count all
      ≡ tally_count acts → Played inner f m (counted later.tallies later.lost s) → Played all (both f g) (suc (m + n)) s
  join all acts inner f g m n s next later step choices made steps_on few same last =
      let one = step last.choices in
      let on : goes (one ∷ last.steps) (counted later.tallies later.lost next) ≡ goes last.steps last.mid =
      ap (λ o. then_run o (run net classes (p ∷ []) last.steps))
      (steps_on later.tallies later.lost last.choices ∙ last.made) in
      let end = on ∙ last.ends ∙ ap Ok (counted_on later.tallies later.lost last.tallies last.lost s) in
      let t : later.tallies + last.tallies ≡ last.tallies + later.tallies = omega arith in
      let u : later.lost + last.lost ≡ last.lost + later.lost = omega arith in
      record {
        choices = choices;
        mid = later.mid;
        made = made;
        steps = later.steps ++ one ∷ last.steps;
        tallies = last.tallies + later.tallies;
        lost = last.lost + later.lost;
        ends = run_both later.steps (one ∷ last.steps) later.mid (counted later.tallies later.lost next)
            (counted (last.tallies + later.tallies) (last.lost + later.lost) s) later.ends
            (end ∙ ap₂ (λ (a b : ℕ). Ok (counted a b s)) t u);
        number = let e = length-append later.steps (one ∷ last.steps) in let a = later.number in let b = last.number in
            omega arith;
        fate_is = fates_both last.tallies last.lost later.tallies later.lost ∙ ap₂ both last.fate_is later.fate_is;
        few = let a = later.few in let b = last.few in omega arith;
      }

  hold_played : (acts : List Act) (f g : Fate) (m n : ℕ) (holder : ℕ) (key : Key) → IsHolder net holder
      → Rest (acts_of_leaving net holder key) f m → Rest acts g n
      → Rest (Hold holder key ∷ acts) (both f g) (suc (m + n))
  hold_played acts f g m n holder key h inner rest s z =
      let r : Record = record { key = key; counts = one_packet p } in
      let here = there s.held holder (let lt = h.there in let e = z.held in omega arith) in
      let rs = here.0 in
      let next : State = record s { held = slice_set s.held holder (rs ++ r ∷ []) } in
      let later = rest next (record { held = length-set s.held holder (rs ++ r ∷ []) ∙ z.held; carried = z.carried }) in
      let made : all_acts net (one_packet p) (Hold holder key ∷ acts) s (None ∷ later.choices) ≡ Ok later.mid =
      ap (λ o. act_all net (one_packet p) acts (hold_in o holder r s None later.choices)) here.1 ∙ later.made in
      join (Hold holder key ∷ acts) acts (acts_of_leaving net holder key) f g m n s next later
      (λ cs. Expire h.name (suc (length rs)) cs) (None ∷ later.choices) made
      (λ t u cs. expires holder h rs r (counted t u s) cs here.1)
      (let e = leaving_count net holder key in omega arith) refl
      (inner (counted later.tallies later.lost s) (record { held = z.held; carried = z.carried }))

  on_played : (acts : List Act) (f g : Fate) (m n : ℕ) (link : ℕ) (ds : List (Option ℕ)) (key : Key) → link
      < length net.links → Rest (acts_of_arrival net key (slice_get net.links link)) f m
      → Rest (Send (all_of ds) key ∷ acts) g n
      → Rest (Send (all_of (Some link ∷ ds)) key ∷ acts) (both f g) (suc (m + n))
  on_played acts f g m n link ds key lt inner rest s z =
      let r : Record = record { key = key; counts = one_packet p } in
      let here = there s.carried link (let e = z.carried in omega arith) in
      let rs = here.0 in
      let next : State = record s { carried = put_last s.carried link r } in
      let later = rest next (record { held = z.held; carried = length_put_last s.carried link r ∙ z.carried }) in
      join (Send (all_of (Some link ∷ ds)) key ∷ acts) (Send (all_of ds) key ∷ acts)
      (acts_of_arrival net key (slice_get net.links link)) f g m n s next later
      (λ cs. Arrive (suc link) (suc (length rs)) cs) later.choices later.made
      (λ t u cs. arrives link rs r (counted t u s) cs here.1) (arriving_count net key (slice_get net.links link))
      refl (inner (counted later.tallies later.lost s) (record { held = z.held; carried = z.carried }))

  -- what is played of acts is played of others that do the same and tally as often
  same_played : (all acts : List Act) (f : Fate) (n : ℕ) (s : State) (r : Played acts f n s) (choices : Choices)
      → all_acts net (one_packet p) all s choices ≡ all_acts net (one_packet p) acts s r.choices → tally_count all
      ≡ tally_count acts → Played all f n s
  same_played all acts f n s r choices e c = record {
    choices = choices;
    mid = r.mid;
    made = e ∙ r.made;
    steps = r.steps;
    tallies = r.tallies;
    lost = r.lost;
    ends = r.ends;
    number = r.number;
    fate_is = r.fate_is;
    few = let k = r.few in omega arith;
  }

  choice_played : (acts : List Act) (f : Fate) (n : ℕ) (ds : List (Option ℕ)) (number : ℕ) (d : Option ℕ) (key : Key)
      → entry_numbered ds number ≡ Some d → Rest (Send (all_of (d ∷ [])) key ∷ acts) f n
      → Rest (Send (any_of ds) key ∷ acts) f n
  choice_played acts f n ds number d key e rest s z =
      let r = rest s z in
      let x : Record = record { key = key; counts = one_packet p } in
      same_played (Send (any_of ds) key ∷ acts) (Send (all_of (d ∷ [])) key ∷ acts) f n s r (Some number ∷ r.choices)
      (ap (λ o. act_all net (one_packet p) acts (sent_to_chosen o x s r.choices)) e) refl

  -- ---- the law

  pub play : {acts : List Act} {f : Fate} {n : ℕ} → Chain net acts f n → Every OwnAct acts → Rest acts f n
  unfolding OwnAct
  play no_act own = λ s z. nothing_played s
  play (tally key acts f n d) own = tally_played key acts f n own.0 (play d own.1)
      (refines key.layout net.report_layout) refl
  play (hold holder key acts f g m n h d e) own =
      hold_played acts f g m n holder key h (play d (leaving_own holder key own.0)) (play e own.1)
  play (send_end key acts f n d) own = λ s z. same_played (Send (all_of []) key ∷ acts) acts f n s (play d own.1 s z)
      (play d own.1 s z).choices refl refl
  play (send_out ds key acts f n d) own =
      λ s z. same_played (Send (all_of (None ∷ ds)) key ∷ acts) (Send (all_of ds) key ∷ acts) f n s (play d own s z)
      (play d own s z).choices refl refl
  play (send_on link ds key acts f g m n lt d e) own =
      on_played acts f g m n link ds key lt (play d (arriving_own key own.0 (slice_get net.links link))) (play e own)
  play (choose ds number d key acts f n at e) own = choice_played acts f n ds number d key at (play e own)
