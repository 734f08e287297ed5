-- Each step keeps the quantity.
use Rattle.std.proofs.Common.{◌≡◌, ◌≢◌, ℕ, suc, Bool, true, false, cond, if◌then◌else◌, ◌&&◌, ◌==◌, List, [], ◌∷◌, ◌++◌, map, filter, Option, Some, None, Ok, Err, refl, sym, ap, ap₂, ◌∙◌, subst, slice_get, slice_set, remove, length-set, eqb-true}
use Rattle.std.specs.List.{list_all}
use Rattle.fx_base.specs.declared.counts.Counts.{Counts}
use Rattle.fx_layout.specs.Keys.{Key, refines, project, same_key, reads, bits_on}
use Rattle.fx_layout.proofs.Projections.{and_true, project_again}
use Rattle.fx_tables.specs.declared.record.Record.{Record}
use Rattle.fx_tables.specs.declared.packet.Packet.{Packet}
use Rattle.fx_run_text.specs.declared.step.Step.{Step}
use Rattle.fx_run_text.specs.declared.step.Step.TheVariants.{Cross, Expire, Arrive}
use Rattle.fx_tables.specs.Network.{at_places, holder_place, Exporter, Holder, AggregationEntry, Process, Net, exporters_of, layout_of, takes}
use Rattle.fx_base.specs.Entries.{entry_numbered}
use Rattle.fx_tables.specs.Classes.{Class, path}
use Rattle.fx_machine.specs.States.{State, without, Coming}
use Rattle.fx_machine.specs.Acts.{Choices, Act, Tally, Send, Outcome, all_acts}
use Rattle.fx_machine.specs.Steps.{acts_of_leaving, take_in, acts_of, coming_to, acts_of_arrival, crossing_acts, one_packet, later, place, after_cross, after_expire, after_arrive, expire_from, expire_at, arrive_from, arrive_at, link_place, after, then_run, run}
use Rattle.fx_leaf.specs.declared.verdict.Fate.TheVariants.{Once}
use Rattle.fx_leaf.specs.Fates.{FateAt, all_happen, one_happens, process_fate, destination_fate, send_fate, held_fate, act_fate}
use Rattle.fx_leaf.specs.Quantity.{Weight, Wrong, Nothing, Counted, plus, weigh_all, part_of, by_fate, key_of_act, act_weight, held_weight, carried_weight, coming_weight, packet_weight, quantity_by}
use Rattle.fx_leaf.proofs.Weights.{right_right, weigh_remove, weigh_without, weigh_each_less}
use Rattle.fx_leaf.proofs.FateLaws.{IsGood, good_of_weight, every_same, all_weighed, some_once, one_once, Every, every_append}
use Rattle.fx_leaf.proofs.Acts

pub weigh_map : {A B : Type 0} (f : B → Weight) (g : A → B) (xs : List A) → weigh_all f (map g xs)
    ≡ weigh_all (λ x. f (g x)) xs
weigh_map f g [] = refl
weigh_map f g (x ∷ xs) = ap (plus (f (g x))) (weigh_map f g xs)

pub every_map : {A B : Type 0} (P : B → Type 0) (g : A → B) (xs : List A) → ((x : A) → P (g x)) → Every P (map g xs)
every_map P g [] h = tt
every_map P g (x ∷ xs) h = (h x, every_map P g xs h)

pub every_map_filter : {A B : Type 0} (P : B → Type 0) (g : A → B) (test : A → Bool) (xs : List A)
    → ((x : A) → test x ≡ true → P (g x)) → Every P (map g (filter test xs))
every_map_filter P g test [] h = tt
every_map_filter P g test (x ∷ xs) h =
    let rest = every_map_filter P g test xs h in
    elim (test x) as (λ b. test x ≡ b → Every P (map g (cond b (x ∷ filter test xs) (filter test xs)))) [
      | true ↦ λ e. (h x e, rest)
      | false ↦ λ e. rest
    ] refl

pub every_all : {A : Type 0} (P : A → Type 0) (xs : List A) → ((x : A) → P x) → Every P xs
every_all P [] h = tt
every_all P (x ∷ xs) h = (h x, every_all P xs h)

placed_further : (c : Coming) (cs : List Coming) (at : Coming) (n : ℕ) (o : Option ℕ)
    → ((m : ℕ) → o ≡ Some m → slice_get cs m ≡ Some at) → later o ≡ Some n → slice_get (c ∷ cs) n ≡ Some at
placed_further c cs at n None rest h = absurd (cc)
placed_further c cs at n (Some m) rest h =
    let is : suc m ≡ n = cc in
    subst (λ k. slice_get (c ∷ cs) k ≡ Some at) is (rest m refl)

-- the crossing that stands at its place
placed : (cs : List Coming) (packet crossing n : ℕ) → place cs packet crossing ≡ Some n → slice_get cs n
    ≡ Some (record { packet = packet; crossing = crossing })
placed [] packet crossing n h = absurd (cc)
placed (c ∷ cs) packet crossing n h =
    elim (c.packet == packet && c.crossing == crossing)
    as (λ b. (c.packet == packet && c.crossing == crossing) ≡ b → cond b (Some 0) (later (place cs packet crossing))
    ≡ Some n → slice_get (c ∷ cs) n ≡ Some (record { packet = packet; crossing = crossing })) [
      | true ↦ λ e k.
          let is : 0 ≡ n = cc in
          let parts = and_true (c.packet == packet) (c.crossing == crossing) e in
          subst (λ m. slice_get (c ∷ cs) m ≡ Some (record { packet = packet; crossing = crossing })) is
          (ap Some (ap₂ (λ (i j : ℕ). record { packet = i; crossing = j }) (eqb-true c.packet packet parts.0)
          (eqb-true c.crossing crossing parts.1)))
      | false ↦ λ e k. placed_further c cs (record { packet = packet; crossing = crossing }) n
          (place cs packet crossing) (λ m. placed cs packet crossing m) k
    ] refl h

-- what is known of the fates
pub record IsFate (at : FateAt) (net : Net) : Type 0 where
  pub unfolds : (process : ℕ) (key : Key) → at process key
      ≡ all_happen (map (act_fate at net) (coming_to net key process))
  pub refined : (process : ℕ) (key : Key) → at process key ≡ Once → refines key.layout net.report_layout ≡ true

module _ (at : FateAt) (net : Net) (refined : (process : ℕ) (key : Key) → at process key ≡ Once
    → refines key.layout net.report_layout ≡ true) where
  process_once : (key : Key) (o : Option ℕ) → process_fate at key o ≡ Once → refines key.layout net.report_layout ≡ true
  process_once key None h = absurd (cc)
  process_once key (Some process) h = refined process key h

  destination_once : (key : Key) (d : Option ℕ) → destination_fate at net key d ≡ Once
      → refines key.layout net.report_layout ≡ true
  destination_once key None h = absurd (cc)
  destination_once key (Some link) h = process_once key (slice_get net.links link) h

  pub send_once : (key : Key) (e : Exporter) → send_fate at net key e ≡ Once → refines key.layout net.report_layout
      ≡ true
  send_once key e h =
      let fates = map (destination_fate at net key) e.destinations in
      let P : Type 0 = refines key.layout net.report_layout ≡ true in
      let each = every_all (λ d. destination_fate at net key d ≡ Once → P) e.destinations (destination_once key) in
      elim e.parallel as (λ b. cond b (all_happen fates) (one_happens fates) ≡ Once → P) [
        | true ↦ some_once (destination_fate at net key) P e.destinations each
        | false ↦ one_once (destination_fate at net key) P e.destinations each
      ] h

  -- a held record that comes to be counted once has a layout that refines the report's
  pub held_once : (key : Key) (o : Option Holder) → held_fate at net key o ≡ Once → refines key.layout net.report_layout
      ≡ true
  held_once key o h =
      let P : Type 0 = refines key.layout net.report_layout ≡ true in
      some_once (send_fate at net key) P (exporters_of net o)
      (every_all (λ e. send_fate at net key e ≡ Once → P) (exporters_of net o) (send_once key)) h

module _ (at : FateAt) (net : Net) (known : IsFate at net) (classes : List Class) (packets : List Packet) (total : Key)
  where
    abbrev Q : State → Weight
    Q s = quantity_by at net classes packets total s

    -- what each act at a process counts under is the same report key
    SameShare : Key → Counts → Act → Type 0
    SameShare key counts a = act_fate at net a ≡ Once → part_of net total (key_of_act a) counts
        ≡ part_of net total key counts

    taken_share : (key : Key) (counts : Counts) (a : AggregationEntry) → takes net key a ≡ true
        → SameShare key counts (take_in net key a)
    unfolding SameShare
    taken_share key counts a t once =
        let layout = layout_of (slice_get net.holders a.holder) in
        let reads' = and_true (refines key.layout layout)
        (list_all (λ e. reads key.layout e.axis e.bits && bits_on key e.axis e.bits == e.value) a.matches) t in
        let on = held_once at net known.refined (project key layout) (slice_get net.holders a.holder) once in
        ap (λ k. if same_key k total then Counted counts else Nothing)
        (project_again key layout net.report_layout reads'.0 on)

    acts_share : (key : Key) (counts : Counts) (o : Option Process) → Every (SameShare key counts) (acts_of net key o)
    unfolding SameShare
    acts_share key counts None = tt
    acts_share key counts (Some process) =
        every_append (SameShare key counts) (map (λ e. Send e key) (at_places net.exporters process.exporters))
        (map (take_in net key) (filter (takes net key) process.aggregations))
        (every_map (SameShare key counts) (λ e. Send e key) (at_places net.exporters process.exporters)
        (λ e. λ once. refl)) (every_map_filter (SameShare key counts) (take_in net key) (takes net key)
        process.aggregations (taken_share key counts))

    coming_share : (key : Key) (counts : Counts) (process : ℕ)
        → Every (SameShare key counts) (coming_to net key process)
    unfolding SameShare
    coming_share key counts process =
        let rest = acts_share key counts (slice_get net.processes process) in
        elim (process == net.report) as (λ b. Every (SameShare key counts)
        (cond b (Tally key ∷ []) [] ++ acts_of net key (slice_get net.processes process))) [
          | true ↦ (λ once. refl, rest)
          | false ↦ rest
        ]

    -- the acts at a process weigh as much as the record that comes
    coming_weighs : (key : Key) (counts : Counts) (process : ℕ) → IsGood (at process key)
        → weigh_all (act_weight at net total counts) (coming_to net key process)
        ≡ by_fate (at process key) (part_of net total key counts)
    unfolding SameShare
    coming_weighs key counts process good =
        let good' = subst IsGood (known.unfolds process key) good in
        all_weighed (act_fate at net) (λ a. part_of net total (key_of_act a) counts) (part_of net total key counts)
        (coming_to net key process) (coming_share key counts process) good'
        ∙ ap (λ f. by_fate f (part_of net total key counts)) (sym (known.unfolds process key))

    arriving_weighs : (key : Key) (counts : Counts) (o : Option ℕ) → IsGood (process_fate at key o)
        → weigh_all (act_weight at net total counts) (acts_of_arrival net key o)
        ≡ by_fate (process_fate at key o) (part_of net total key counts)
    arriving_weighs key counts None good = refl
    arriving_weighs key counts (Some process) good = coming_weighs key counts process good

    leaving_weighs : (holder : ℕ) (key : Key) (counts : Counts)
        → IsGood (held_fate at net key (slice_get net.holders holder))
        → weigh_all (act_weight at net total counts) (acts_of_leaving net holder key)
        ≡ by_fate (held_fate at net key (slice_get net.holders holder)) (part_of net total key counts)
    leaving_weighs holder key counts good =
        let w = part_of net total key counts in
        let es = exporters_of net (slice_get net.holders holder) in
        weigh_map (act_weight at net total counts) (λ e. Send e key) es
        ∙ all_weighed (send_fate at net key) (λ e. w) w es
        (every_same (send_fate at net key) (λ e. w) w es (λ e. refl)) good

    -- a step keeps the quantity, and a place for each holder and link
    pub record Keeps (s new : State) : Type 0 where
      pub kept : Q new ≡ Q s
      pub sized : Acts.IsSized net new

    -- the weight that left comes back by the acts
    comes_back : (s mid new : State) (w : Weight) (acts : List Act) (counts : Counts) (choices : Choices) → Q s
        ≡ plus (Q mid) w → Q s ≢ Wrong → Acts.IsSized net mid
        → (w ≢ Wrong → weigh_all (act_weight at net total counts) acts ≡ w) → all_acts net counts acts mid choices
        ≡ Ok new → Keeps s new
    comes_back s mid new w acts counts choices left good z weighs h =
        let w_good : w ≢ Wrong = right_right (Q mid) w (subst (λ q. q ≢ Wrong) left good) in
        let e = weighs w_good in
        let gain = Acts.acts_gain at net classes packets total counts acts (record { state = mid; choices = choices })
        new
        z (subst (λ v. v ≢ Wrong) (sym e) w_good) h in
        record { kept = gain.gained ∙ ap (plus (Q mid)) e ∙ sym left; sized = gain.sized }

    expire_keeps : (holder number : ℕ) (rs : List Record) (o : Option Record) (s new : State) (choices : Choices)
        → slice_get s.held holder ≡ Some rs → entry_numbered rs number ≡ o → Q s ≢ Wrong → Acts.IsSized net s
        → after_expire net holder rs number o s choices ≡ Ok new → Keeps s new
    expire_keeps holder number rs None s new choices at_holder is good z h = absurd (cc)
    expire_keeps holder number rs (Some r) s new choices at_holder is good z h =
        let less = slice_set s.held holder (without rs number) in
        let w = by_fate (held_fate at net r.key (slice_get net.holders holder)) (part_of net total r.key r.counts) in
        let mid : State = record s { held = less } in
        let shrinks = weigh_each_less (held_weight at net total) s.held holder rs (without rs number) w at_holder
        (weigh_without (λ x. by_fate (held_fate at net x.key (slice_get net.holders holder))
        (part_of net total x.key x.counts)) rs number r is) in
        comes_back s mid new w (acts_of_leaving net holder r.key) r.counts choices
        (Acts.held_more at net classes packets total mid s.held w shrinks) good
        (record { held = length-set s.held holder (without rs number) ∙ z.held; carried = z.carried })
        (λ g. leaving_weighs holder r.key r.counts
        (good_of_weight (held_fate at net r.key (slice_get net.holders holder)) (part_of net total r.key r.counts) g))
        h

    arrive_keeps : (link number : ℕ) (rs : List Record) (o : Option Record) (s new : State) (choices : Choices)
        → slice_get s.carried link ≡ Some rs → entry_numbered rs number ≡ o → Q s ≢ Wrong → Acts.IsSized net s
        → after_arrive net link rs number o s choices ≡ Ok new → Keeps s new
    arrive_keeps link number rs None s new choices at_link is good z h = absurd (cc)
    arrive_keeps link number rs (Some r) s new choices at_link is good z h =
        let less = slice_set s.carried link (without rs number) in
        let w = by_fate (process_fate at r.key (slice_get net.links link)) (part_of net total r.key r.counts) in
        let mid : State = record s { carried = less } in
        let shrinks = weigh_each_less (carried_weight at net total) s.carried link rs (without rs number) w at_link
        (weigh_without (λ x. by_fate (process_fate at x.key (slice_get net.links link))
        (part_of net total x.key x.counts)) rs number r is) in
        comes_back s mid new w (acts_of_arrival net r.key (slice_get net.links link)) r.counts choices
        (Acts.carried_more at net classes packets total mid s.carried w shrinks) good
        (record { held = z.held; carried = length-set s.carried link (without rs number) ∙ z.carried })
        (λ g. arriving_weighs r.key r.counts (slice_get net.links link)
        (good_of_weight (process_fate at r.key (slice_get net.links link)) (part_of net total r.key r.counts) g)) h

    cross_keeps : (crossing n packet : ℕ) (p : Option Packet) (o : Option ℕ) (s new : State) (choices : Choices)
        → entry_numbered packets packet ≡ p → place s.coming packet crossing ≡ o → Q s ≢ Wrong → Acts.IsSized net s
        → after_cross net classes p o crossing s choices ≡ Ok new → Keeps s new
    cross_keeps crossing n packet p None s new choices is at_place good z h = absurd (cc)
    cross_keeps crossing n packet None (Some m) s new choices is at_place good z h = absurd (cc)
    cross_keeps crossing n packet (Some p) (Some m) s new choices is at_place good z h =
        let mid : State = record s { coming = remove s.coming m } in
        let here : Coming = record { packet = packet; crossing = crossing } in
        let acts = crossing_acts net p.fields (entry_numbered (path classes p) crossing) in
        let w = weigh_all (act_weight at net total (one_packet p)) acts in
        let less = weigh_remove (coming_weight at net classes packets total) s.coming m here
        (placed s.coming packet crossing m at_place) in
        let same : coming_weight at net classes packets total here ≡ w =
        ap (λ q. packet_weight at net classes total q crossing) is in
        let shrinks = less ∙ ap (plus (weigh_all (coming_weight at net classes packets total) (remove s.coming m))) same
        in
        comes_back s mid new w acts (one_packet p) choices
        (Acts.coming_more at net classes packets total mid s.coming w shrinks) good
        (record { held = z.held; carried = z.carried }) (λ g. refl) h

    expire_from_keeps : (holder number : ℕ) (o : Option (List Record)) (s new : State) (choices : Choices)
        → slice_get s.held holder ≡ o → Q s ≢ Wrong → Acts.IsSized net s → expire_from net holder o number s choices
        ≡ Ok new → Keeps s new
    expire_from_keeps holder number None s new choices is good z h = absurd (cc)
    expire_from_keeps holder number (Some rs) s new choices is good z h =
        expire_keeps holder number rs (entry_numbered rs number) s new choices is refl good z h

    arrive_from_keeps : (link number : ℕ) (o : Option (List Record)) (s new : State) (choices : Choices)
        → slice_get s.carried link ≡ o → Q s ≢ Wrong → Acts.IsSized net s → arrive_from net link o number s choices
        ≡ Ok new → Keeps s new
    arrive_from_keeps link number None s new choices is good z h = absurd (cc)
    arrive_from_keeps link number (Some rs) s new choices is good z h =
        arrive_keeps link number rs (entry_numbered rs number) s new choices is refl good z h

    expire_at_keeps : (number : ℕ) (o : Option ℕ) (s new : State) (choices : Choices) → Q s ≢ Wrong → Acts.IsSized net s
        → expire_at net o number s choices ≡ Ok new → Keeps s new
    expire_at_keeps number None s new choices good z h = absurd (cc)
    expire_at_keeps number (Some holder) s new choices good z h =
        expire_from_keeps holder number (slice_get s.held holder) s new choices refl good z h

    arrive_at_keeps : (number : ℕ) (o : Option ℕ) (s new : State) (choices : Choices) → Q s ≢ Wrong → Acts.IsSized net s
        → arrive_at net o number s choices ≡ Ok new → Keeps s new
    arrive_at_keeps number None s new choices good z h = absurd (cc)
    arrive_at_keeps number (Some link) s new choices good z h =
        arrive_from_keeps link number (slice_get s.carried link) s new choices refl good z h

    -- each step
    pub step_keeps : (step : Step) (s new : State) → Q s ≢ Wrong → Acts.IsSized net s → after net classes packets step s
        ≡ Ok new → Keeps s new
    step_keeps (Cross packet crossing choices) s new good z h =
        cross_keeps crossing 0 packet (entry_numbered packets packet) (place s.coming packet crossing) s new choices
        refl
        refl good z h
    step_keeps (Expire holder number choices) s new good z h =
        expire_at_keeps number (holder_place net holder) s new choices good z h
    step_keeps (Arrive link number choices) s new good z h =
        arrive_at_keeps number (link_place link) s new choices good z h

    run_on : (steps : List Step) (s new : State) (o : Outcome)
        → ((mid : State) → Keeps s mid → run net classes packets steps mid ≡ Ok new → Keeps mid new)
        → ((mid : State) → o ≡ Ok mid → Keeps s mid) → then_run o (run net classes packets steps) ≡ Ok new → Keeps s new
    run_on steps s new (Err n) rest one h = absurd (cc)
    run_on steps s new (Ok mid) rest one h =
        let first = one mid refl in
        let then' = rest mid first h in
        record { kept = then'.kept ∙ first.kept; sized = then'.sized }

    -- whole runs
    pub run_keeps : (steps : List Step) (s new : State) → Q s ≢ Wrong → Acts.IsSized net s
        → run net classes packets steps s ≡ Ok new → Keeps s new
    run_keeps [] s new good z h =
        let same : s ≡ new = cc in
        record { kept = ap Q (sym same); sized = subst (Acts.IsSized net) same z }
    run_keeps (step ∷ steps) s new good z h =
        run_on steps s new (after net classes packets step s)
        (λ mid. λ k. λ r. run_keeps steps mid new (subst (λ q. q ≢ Wrong) (sym k.kept) good) k.sized r)
        (λ mid. λ e. step_keeps step s mid good z e) h
