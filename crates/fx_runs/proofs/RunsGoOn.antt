-- Runs go on: over packets that come behind, and by steps that come behind.
use Rattle.std.proofs.Common.{◌≡◌, ℕ, zero, suc, ◌+◌, Bool, true, false, ◌&&◌, ◌==◌, cond, List, [], ◌∷◌, ◌++◌, length, refl, ap, sym, ◌∙◌, arith, append_assoc, Option, Some, None, Ok, Err}
use Rattle.std.specs.Prelude.{remove, slice_get, slice_set}
use Rattle.std.proofs.lemmas.List.{append-nil}
use Rattle.fx_base.specs.declared.counts.Counts.{Counts}
use Rattle.fx_layout.specs.Keys.{Key, project, refines}
use Rattle.fx_tables.specs.declared.packet.Packet.{Packet}
use Rattle.fx_tables.specs.declared.record.Record.{Record}
use Rattle.fx_run_text.specs.declared.step.Step.{Step}
use Rattle.fx_run_text.specs.declared.step.Step.TheVariants.{Cross, Expire, Arrive}
use Rattle.fx_tables.specs.Network.{Net, Exporter, holder_place}
use Rattle.fx_base.specs.Entries.{entry_numbered}
use Rattle.fx_tables.specs.Classes.{Class, path}
use Rattle.fx_machine.specs.States.{State, Coming, crossings_from, coming_from, opening, nothing_at, without, add_at, after_tally, sent_to, sent_to_all}
use Rattle.fx_machine.specs.Acts.{Choices, Act, Tally, Send, Hold, Made, Outcome, sent_to_chosen, send_by_choice, taken_in, with_held, hold_in, hold, act, all_used, act_all, all_acts}
use Rattle.fx_machine.specs.Steps.{one_packet, crossing_acts, acts_of_leaving, acts_of_arrival, later, place, after_cross, after_expire, expire_from, expire_at, link_place, after_arrive, arrive_from, arrive_at, after, then_run, run}
use Rattle.fx_runs.specs.Extending.{coming_too, crossings_of, with_packet}

-- ---- acts don't look at what is to come

abbrev made_at : State → Choices → Option Made
made_at s choices = Some (record { state = s; choices = choices })

module _ (more : List Coming) where
  abbrev made_too : Option Made → Option Made
  made_too None = None
  made_too (Some m) = made_at (coming_too more m.state) m.choices

  abbrev outcome_too : Outcome → Outcome
  outcome_too (Ok s) = Ok (coming_too more s)
  outcome_too (Err n) = Err n

  tallied_too : (net : Net) (key : Key) (counts : Counts) (s : State) → after_tally net key counts (coming_too more s)
      ≡ coming_too more (after_tally net key counts s)
  tallied_too net key counts s = by (refines key.layout net.report_layout) where
    by : (t : Bool) → cond t (record (coming_too more s)
        { totals = add_at s.totals (project key net.report_layout) counts })
        (record (coming_too more s) { unassigned = s.unassigned + 1 })
        ≡ coming_too more (cond t (record s { totals = add_at s.totals (project key net.report_layout) counts })
        (record s { unassigned = s.unassigned + 1 }))
    by true = refl
    by false = refl

  sent_too : (d : Option ℕ) (r : Record) (s : State) → sent_to d r (coming_too more s) ≡ coming_too more (sent_to d r s)
  sent_too None r s = refl
  sent_too (Some link) r s = refl

  sent_all_too : (ds : List (Option ℕ)) (r : Record) (s : State) → sent_to_all ds r (coming_too more s)
      ≡ coming_too more (sent_to_all ds r s)
  sent_all_too [] r s = refl
  sent_all_too (d ∷ ds) r s = ap (sent_to_all ds r) (sent_too d r s) ∙ sent_all_too ds r (sent_to d r s)

  chosen_too : (o : Option (Option ℕ)) (r : Record) (s : State) (choices : Choices)
      → sent_to_chosen o r (coming_too more s) choices ≡ made_too (sent_to_chosen o r s choices)
  chosen_too None r s choices = refl
  chosen_too (Some d) r s choices = ap (λ (x : State). made_at x choices) (sent_too d r s)

  by_choice_too : (ds : List (Option ℕ)) (r : Record) (s : State) (choices : Choices)
      → send_by_choice ds r (coming_too more s) choices ≡ made_too (send_by_choice ds r s choices)
  by_choice_too ds r s [] = refl
  by_choice_too ds r s (None ∷ choices) = refl
  by_choice_too ds r s (Some n ∷ choices) = chosen_too (entry_numbered ds n) r s choices

  with_held_too : (s : State) (holder : ℕ) (o : Option (List Record)) (choices : Choices)
      → with_held (coming_too more s) holder o choices ≡ made_too (with_held s holder o choices)
  with_held_too s holder None choices = refl
  with_held_too s holder (Some rs) choices = refl

  hold_in_too : (o : Option (List Record)) (holder : ℕ) (r : Record) (s : State) (choice : Option ℕ) (choices : Choices)
      → hold_in o holder r (coming_too more s) choice choices ≡ made_too (hold_in o holder r s choice choices)
  hold_in_too None holder r s choice choices = refl
  hold_in_too (Some rs) holder r s choice choices = with_held_too s holder (taken_in rs choice r) choices

  hold_too : (holder : ℕ) (r : Record) (s : State) (choices : Choices) → hold holder r (coming_too more s) choices
      ≡ made_too (hold holder r s choices)
  hold_too holder r s [] = refl
  hold_too holder r s (choice ∷ choices) = hold_in_too (slice_get s.held holder) holder r s choice choices

  send_too : (e : Exporter) (r : Record) (s : State) (choices : Choices) (parallel : Bool)
      → cond parallel (made_at (sent_to_all e.destinations r (coming_too more s)) choices)
      (send_by_choice e.destinations r (coming_too more s) choices)
      ≡ made_too (cond parallel (made_at (sent_to_all e.destinations r s) choices)
      (send_by_choice e.destinations r s choices))
  send_too e r s choices true = ap (λ (x : State). made_at x choices) (sent_all_too e.destinations r s)
  send_too e r s choices false = by_choice_too e.destinations r s choices

  act_too : (net : Net) (counts : Counts) (a : Act) (s : State) (choices : Choices)
      → act net counts a (coming_too more s) choices ≡ made_too (act net counts a s choices)
  act_too net counts (Tally key) s choices = ap (λ (x : State). made_at x choices) (tallied_too net key counts s)
  act_too net counts (Send e key) s choices = send_too e (record { key = key; counts = counts }) s choices e.parallel
  act_too net counts (Hold holder key) s choices = hold_too holder (record { key = key; counts = counts }) s choices

  used_too : (choices : Choices) (s : State) → all_used choices (coming_too more s) ≡ outcome_too (all_used choices s)
  used_too [] s = refl
  used_too (c ∷ cs) s = refl

  acts_too : (net : Net) (counts : Counts) (acts : List Act) (m : Option Made) → act_all net counts acts (made_too m)
      ≡ outcome_too (act_all net counts acts m)
  acts_too net counts [] None = refl
  acts_too net counts (a ∷ acts) None = refl
  acts_too net counts [] (Some m) = used_too m.choices m.state
  acts_too net counts (a ∷ acts) (Some m) =
      ap (act_all net counts acts) (act_too net counts a m.state m.choices)
      ∙ acts_too net counts acts (act net counts a m.state m.choices)

  all_acts_too : (net : Net) (counts : Counts) (acts : List Act) (s t : State) (choices : Choices)
      → all_acts net counts acts s choices ≡ Ok t
      → all_acts net counts acts (coming_too more s) choices ≡ Ok (coming_too more t)
  all_acts_too net counts acts s t choices e = acts_too net counts acts (made_at s choices) ∙ ap outcome_too e

-- ---- steps

get_more : {A : Type 0} (xs ys : List A) (n : ℕ) (x : A) → slice_get xs n ≡ Some x → slice_get (xs ++ ys) n ≡ Some x
get_more [] ys n x e = absurd cc
get_more (y ∷ xs) ys zero x e = e
get_more (y ∷ xs) ys (suc n) x e = get_more xs ys n x e

numbered_more : {A : Type 0} (xs ys : List A) (n : ℕ) (x : A) → entry_numbered xs n ≡ Some x
    → entry_numbered (xs ++ ys) n ≡ Some x
numbered_more xs ys zero x e = absurd cc
numbered_more xs ys (suc n) x e = get_more xs ys n x e

abbrev PlaceMore : List Coming → List Coming → ℕ → ℕ → ℕ → Type 0
PlaceMore cs more i j n = (place (cs ++ more) i j ≡ Some n) × (remove (cs ++ more) n ≡ remove cs n ++ more)

later_some : (o : Option ℕ) (n : ℕ) → later o ≡ Some n → (m : ℕ) × (o ≡ Some m) × (n ≡ suc m)
later_some None n e = absurd cc
later_some (Some m) n e = (m, refl, let h : n ≡ suc m = cc in h)

place_more : (cs more : List Coming) (i j n : ℕ) → place cs i j ≡ Some n → PlaceMore cs more i j n
place_more [] more i j n e = absurd cc
place_more (c ∷ cs) more i j n e = by (λ m h. place_more cs more i j m h) (c.packet == i && c.crossing == j) refl where
  here : (t : Bool) → (c.packet == i && c.crossing == j) ≡ t → cond t (Some 0) (later (place cs i j)) ≡ Some n
  here t k = ap (λ (u : Bool). cond u (Some 0) (later (place cs i j))) (sym k) ∙ e

  on : (m : ℕ) → n ≡ suc m → (c.packet == i && c.crossing == j) ≡ false → PlaceMore cs more i j m
      → PlaceMore (c ∷ cs) more i j n
  on m is k h = (
    ap (λ (u : Bool). cond u (Some 0) (later (place (cs ++ more) i j))) k ∙ ap later h.0
        ∙ ap (λ (x : ℕ). Some x) (sym is),
    ap (remove (c ∷ (cs ++ more))) is ∙ ap (λ (l : List Coming). c ∷ l) h.1
        ∙ ap (λ (x : ℕ). remove (c ∷ cs) x ++ more) (sym is),
  )

  by : ((m : ℕ) → place cs i j ≡ Some m → PlaceMore cs more i j m) → (t : Bool) → (c.packet == i && c.crossing == j) ≡ t
      → PlaceMore (c ∷ cs) more i j n
  by ih true k =
      let is : n ≡ 0 = (let s : ◌≡◌ {A = Option ℕ} (Some 0) (Some n) = here true k in cc) in (
        ap (λ (u : Bool). cond u (Some 0) (later (place (cs ++ more) i j))) k
            ∙ ap (λ (x : ℕ). Some x) (sym is),
        ap (remove (c ∷ (cs ++ more))) is
            ∙ ap (λ (x : ℕ). remove (c ∷ cs) x ++ more) (sym is),
      )
  by ih false k = let l = later_some (place cs i j) n (here false k) in on l.0 l.2 k (ih l.0 l.1)

some_packet : (net : Net) (classes : List Class) (o : Option Packet) (n : Option ℕ) (j : ℕ) (s t : State)
    (choices : Choices) → after_cross net classes o n j s choices ≡ Ok t
    → (p : Packet) × (m : ℕ) × (o ≡ Some p) × (n ≡ Some m)
    × (all_acts net (one_packet p) (crossing_acts net p.fields (entry_numbered (path classes p) j))
    (record s { coming = remove s.coming m }) choices ≡ Ok t)
some_packet net classes o None j s t choices e = absurd cc
some_packet net classes None (Some m) j s t choices e = absurd cc
some_packet net classes (Some p) (Some m) j s t choices e = (p, m, refl, refl, e)

-- the state that the first step of a run leads to
pub first_made : (net : Net) (classes : List Class) (packets : List Packet) (steps : List Step) (o : Outcome)
    (t : State) → then_run o (run net classes packets steps) ≡ Ok t
    → (mid : State) × (o ≡ Ok mid) × (run net classes packets steps mid ≡ Ok t)
first_made net classes packets steps (Ok mid) t e = (mid, refl, e)
first_made net classes packets steps (Err n) t e = absurd cc

module _ (net : Net) (classes : List Class) (packets extra : List Packet) (more : List Coming) where
  cross_too : (i j : ℕ) (s t : State) (choices : Choices) → after net classes packets (Cross i j choices) s ≡ Ok t
      → after net classes (packets ++ extra) (Cross i j choices) (coming_too more s) ≡ Ok (coming_too more t)
  cross_too i j s t choices e =
      let c = some_packet net classes (entry_numbered packets i) (place s.coming i j) j s t choices e in
      let m = place_more s.coming more i j c.1 c.3 in
      ap (λ (o : Option Packet). after_cross net classes o (place (s.coming ++ more) i j) j (coming_too more s) choices)
      (numbered_more packets extra i c.0 c.2)
      ∙ ap (λ (o : Option ℕ). after_cross net classes (Some c.0) o j (coming_too more s) choices) m.0
      ∙ ap (λ (l : List Coming). all_acts net (one_packet c.0)
      (crossing_acts net c.0.fields (entry_numbered (path classes c.0) j)) (record s { coming = l }) choices) m.1
      ∙ all_acts_too more net (one_packet c.0) (crossing_acts net c.0.fields (entry_numbered (path classes c.0) j))
      (record s { coming = remove s.coming c.1 }) t choices c.4

  after_expire_too : (holder number : ℕ) (rs : List Record) (o : Option Record) (s t : State) (choices : Choices)
      → after_expire net holder rs number o s choices ≡ Ok t
      → after_expire net holder rs number o (coming_too more s) choices ≡ Ok (coming_too more t)
  after_expire_too holder number rs None s t choices e = absurd cc
  after_expire_too holder number rs (Some r) s t choices e =
      all_acts_too more net r.counts (acts_of_leaving net holder r.key)
      (record s { held = slice_set s.held holder (without rs number) }) t choices e

  expire_from_too : (holder number : ℕ) (o : Option (List Record)) (s t : State) (choices : Choices)
      → expire_from net holder o number s choices ≡ Ok t → expire_from net holder o number (coming_too more s) choices
      ≡ Ok (coming_too more t)
  expire_from_too holder number None s t choices e = absurd cc
  expire_from_too holder number (Some rs) s t choices e =
      after_expire_too holder number rs (entry_numbered rs number) s t choices e

  expire_at_too : (number : ℕ) (o : Option ℕ) (s t : State) (choices : Choices) → expire_at net o number s choices
      ≡ Ok t → expire_at net o number (coming_too more s) choices ≡ Ok (coming_too more t)
  expire_at_too number None s t choices e = absurd cc
  expire_at_too number (Some holder) s t choices e =
      expire_from_too holder number (slice_get s.held holder) s t choices e

  after_arrive_too : (link number : ℕ) (rs : List Record) (o : Option Record) (s t : State) (choices : Choices)
      → after_arrive net link rs number o s choices ≡ Ok t
      → after_arrive net link rs number o (coming_too more s) choices ≡ Ok (coming_too more t)
  after_arrive_too link number rs None s t choices e = absurd cc
  after_arrive_too link number rs (Some r) s t choices e =
      all_acts_too more net r.counts (acts_of_arrival net r.key (slice_get net.links link))
      (record s { carried = slice_set s.carried link (without rs number) }) t choices e

  arrive_from_too : (link number : ℕ) (o : Option (List Record)) (s t : State) (choices : Choices)
      → arrive_from net link o number s choices ≡ Ok t → arrive_from net link o number (coming_too more s) choices
      ≡ Ok (coming_too more t)
  arrive_from_too link number None s t choices e = absurd cc
  arrive_from_too link number (Some rs) s t choices e =
      after_arrive_too link number rs (entry_numbered rs number) s t choices e

  arrive_at_too : (number : ℕ) (o : Option ℕ) (s t : State) (choices : Choices) → arrive_at net o number s choices
      ≡ Ok t → arrive_at net o number (coming_too more s) choices ≡ Ok (coming_too more t)
  arrive_at_too number None s t choices e = absurd cc
  arrive_at_too number (Some link) s t choices e = arrive_from_too link number (slice_get s.carried link) s t choices e

  pub after_too : (step : Step) (s t : State) → after net classes packets step s ≡ Ok t
      → after net classes (packets ++ extra) step (coming_too more s) ≡ Ok (coming_too more t)
  after_too (Cross i j choices) s t e = cross_too i j s t choices e
  after_too (Expire name number choices) s t e = expire_at_too number (holder_place net name) s t choices e
  after_too (Arrive link number choices) s t e = arrive_at_too number (link_place link) s t choices e

  pub runs_extend_from : (steps : List Step) (s t : State) → run net classes packets steps s ≡ Ok t
      → run net classes (packets ++ extra) steps (coming_too more s) ≡ Ok (coming_too more t)
  runs_extend_from [] s t e = ap (outcome_too more) e
  runs_extend_from (step ∷ steps) s t e =
      let f = first_made net classes packets steps (after net classes packets step s) t e in
      ap (λ (o : Outcome). then_run o (run net classes (packets ++ extra) steps)) (after_too step s f.0 f.1)
      ∙ runs_extend_from steps f.0 t f.2

-- ---- the opening

coming_push : (classes : List Class) (n : ℕ) (packets : List Packet) (p : Packet)
    → coming_from classes n (packets ++ p ∷ []) ≡ coming_from classes n packets
    ++ crossings_from (n + length packets) 1 (path classes p)
coming_push classes n [] p =
    append-nil (crossings_from n 1 (path classes p))
    ∙ ap (λ (m : ℕ). crossings_from m 1 (path classes p)) (let e : n ≡ n + 0 = omega arith in e)
coming_push classes n (q ∷ qs) p =
    ap (λ (l : List Coming). crossings_from n 1 (path classes q) ++ l)
    (coming_push classes (suc n) qs p ∙ ap (λ (m : ℕ). coming_from classes (suc n) qs
    ++ crossings_from m 1 (path classes p)) (let e : suc n + length qs ≡ n + suc (length qs) = omega arith in e))
    ∙ sym (append_assoc (crossings_from n 1 (path classes q)) (coming_from classes (suc n) qs)
    (crossings_from (n + suc (length qs)) 1 (path classes p)))

pub opening_push : (net : Net) (classes : List Class) (packets : List Packet) (p : Packet)
    → opening net classes (packets ++ p ∷ []) ≡ with_packet classes packets p (opening net classes packets)
opening_push net classes packets p =
    ap (λ (l : List Coming). let s : State =
    record {
      coming = l;
      held = nothing_at net.holders;
      carried = nothing_at net.links;
      totals = [];
      unassigned =
          0;
    } in s)
    (coming_push classes 1 packets p ∙ ap (λ (m : ℕ). coming_from classes 1 packets
    ++ crossings_from m 1 (path classes p)) (let e : 1 + length packets ≡ suc (length packets) = omega arith in e))

pub runs_extend : (net : Net) (classes : List Class) (packets : List Packet) (p : Packet) (steps : List Step)
    (s : State) → run net classes packets steps (opening net classes packets) ≡ Ok s
    → run net classes (packets ++ p ∷ []) steps (opening net classes (packets ++ p ∷ []))
    ≡ Ok (with_packet classes packets p s)
runs_extend net classes packets p steps s e =
    ap (run net classes (packets ++ p ∷ []) steps) (opening_push net classes packets p)
    ∙ runs_extend_from net classes packets (p ∷ []) (crossings_of classes packets p) steps
    (opening net classes packets) s e

-- ---- runs, one after another

pub runs_join : (net : Net) (classes : List Class) (packets : List Packet) (first behind : List Step) (s mid t : State)
    → run net classes packets first s ≡ Ok mid → run net classes packets behind mid ≡ Ok t
    → run net classes packets (first ++ behind) s ≡ Ok t
runs_join net classes packets [] behind s mid t e f = (let h : s ≡ mid = cc in ap (run net classes packets behind) h)
    ∙ f
runs_join net classes packets (step ∷ steps) behind s mid t e f =
    let g = first_made net classes packets steps (after net classes packets step s) mid e in
    ap (λ (o : Outcome). then_run o (run net classes packets (steps ++ behind))) g.1
    ∙ runs_join net classes packets steps behind g.0 mid t g.2 f
