-- In a part of a network a key has the fate that it has in the whole.
use Rattle.std.proofs.Common.{◌≡◌, ◌+◌, ◌≤◌, inl, inr, ℕ, Bool, true, false, cond, ◌&&◌, ◌==◌, List, [], ◌∷◌, ◌++◌, map, filter, Option, Some, None, slice_get, refl, sym, ap, ap₂, ◌∙◌, subst, arith}
use Rattle.std.specs.List.{list_all}
use Rattle.std.proofs.lemmas.Bool.Decides.{nat_tests}
use Rattle.std.proofs.lemmas.Option.{slice_get_past, slice_get_cases}
use Rattle.fx_elements.specs.Axes.{Fields}
use Rattle.fx_boxes.specs.Boxes.{Bounds, holds}
use Rattle.fx_layout.specs.Keys.{Layout, Key, key_of, project, refines, reads, bits_on}
use Rattle.fx_tables.specs.declared.observation.Selection.{Selection}
use Rattle.fx_tables.specs.declared.observation.Occurrence.{Occurrence}
use Rattle.fx_tables.specs.declared.traffic.Crossing.{Crossing}
use Rattle.fx_tables.specs.Network.{Net, Exporter, Holder, Process, Point, at_places, exporters_of, layout_of, points_of, takes}
use Rattle.fx_base.specs.Entries.{entry_numbered}
use Rattle.fx_tables.specs.Occurrences.{selects, occurrence, met_by, watches, met_at, occurrences}
use Rattle.fx_tables.specs.Ranks.{IsRanked}
use Rattle.fx_machine.specs.Acts.{Tally, Send}
use Rattle.fx_machine.specs.Steps.{meet, crossing_acts, take_in, acts_of}
use Rattle.fx_leaf.specs.declared.verdict.Fate.{Fate}
use Rattle.fx_leaf.specs.declared.verdict.Fate.TheVariants.{Never, Once, Unassigned}
use Rattle.fx_leaf.specs.Fates.{AreFates, FateAt, all_happen, one_happens, process_fate, destination_fate, send_fate, held_fate, act_fate, coming_fate, fate, acts_along, packet_fate}
use Rattle.fx_leaf.proofs.Ranks.{agrees, only}
use Rattle.fx_leaf.proofs.Trees.{map_append'}
use Rattle.fx_parts.specs.Meaning.{Sending, Holding, AggregationHandling, Handling, Metering, lead, sending_of, holding_of, taking_of, handling_of, metering_of, meterings_of, meterings_at, meterings, taken_by}
use Rattle.fx_parts.specs.Parts.{lead_in, sending_in, holding_in, taking_in, handling_in, metering_in, IsPart, MetersTheSame, TakesInTheSame}

-- ---- lists

-- what is done to each entry of a list that was made entry by entry
pub maps : {A B C : Type 0} (f : B → C) (g : A → B) (h : A → C) (xs : List A) → ((x : A) → f (g x) ≡ h x)
    → map f (map g xs) ≡ map h xs
maps f g h [] same = refl
maps f g h (x ∷ xs) same = ap₂ (λ y ys. y ∷ ys) (same x) (maps f g h xs same)

each_same : {A B : Type 0} (f h : A → B) (xs : List A) → ((x : A) → f x ≡ h x) → map f xs ≡ map h xs
each_same f h [] same = refl
each_same f h (x ∷ xs) same = ap₂ (λ y ys. y ∷ ys) (same x) (each_same f h xs same)

-- of entries that were made by g those that pass a test, where the test passes an entry as another one passes what it
-- was made of
filters : {A B C : Type 0} (f : B → C) (test : B → Bool) (g : A → B) (h : A → C) (passes : A → Bool) (xs : List A)
    → ((x : A) → f (g x) ≡ h x) → ((x : A) → test (g x) ≡ passes x) → map f (filter test (map g xs))
    ≡ map h (filter passes xs)
filters f test g h passes [] same tests = refl
filters {A} {B} {C} f test g h passes (x ∷ xs) same tests =
    let rest = filters f test g h passes xs same tests in
    ap (λ (b : Bool). map f (cond b (g x ∷ filter test (map g xs)) (filter test (map g xs)))) (tests x)
    ∙ by (passes x) rest
  where
    by : (b : Bool) → map f (filter test (map g xs)) ≡ map h (filter passes xs)
        → map f (cond b (g x ∷ filter test (map g xs)) (filter test (map g xs)))
        ≡ map h (cond b (x ∷ filter passes xs) (filter passes xs))
    by true rest = ap₂ (λ y ys. y ∷ ys) (same x) rest
    by false rest = rest

-- ---- fates over what is looked up

abbrev sending_fate : FateAt → Key → Sending → Fate
sending_fate at key s = cond s.parallel (all_happen (map (process_fate at key) s.leads))
    (one_happens (map (process_fate at key) s.leads))

abbrev holding_fate : FateAt → Key → Holding → Fate
holding_fate at key h = all_happen (map (sending_fate at key) h.sendings)

abbrev passes : Key → AggregationHandling → Bool
passes key t = refines key.layout t.holding.layout && list_all
    (λ e. reads key.layout e.axis e.bits && bits_on key e.axis e.bits == e.value) t.matches

abbrev taking_fate : FateAt → Key → AggregationHandling → Fate
taking_fate at key t = holding_fate at (project key t.holding.layout) t.holding

abbrev handling_fates : FateAt → Key → Handling → List Fate
handling_fates at key h = map (sending_fate at key) h.sendings
    ++ map (taking_fate at key) (filter (passes key) h.takings)

abbrev tallied : Layout → Key → Bool → List Fate
tallied layout key b = cond b (cond (refines key.layout layout) Once Unassigned ∷ []) []

module _ (net : Net) (at : FateAt) where
  destination_is : (key : Key) (d : Option ℕ) → process_fate at key (lead net d) ≡ destination_fate at net key d
  destination_is key None = refl
  destination_is key (Some link) = refl

  sending_is : (key : Key) (e : Exporter) → sending_fate at key (sending_of net e) ≡ send_fate at net key e
  sending_is key e =
      ap (λ fs. cond e.parallel (all_happen fs) (one_happens fs))
      (maps (process_fate at key) (lead net) (destination_fate at net key) e.destinations (destination_is key))

  holding_is : (key : Key) (holder : Option Holder) → holding_fate at key (holding_of net holder)
      ≡ held_fate at net key holder
  holding_is key holder = ap all_happen (maps (sending_fate at key) (sending_of net) (send_fate at net key)
      (exporters_of net holder) (sending_is key))

  handling_is : (key : Key) (process : Option Process) → handling_fates at key (handling_of net process)
      ≡ map (act_fate at net) (acts_of net key process)
  handling_is key None = refl
  handling_is key (Some process) =
      let exporters = at_places net.exporters process.exporters in
      let sent : map (sending_fate at key) (map (sending_of net) exporters)
      ≡ map (act_fate at net) (map (λ e. Send e key) exporters) =
      maps (sending_fate at key) (sending_of net) (send_fate at net key) exporters (sending_is key)
      ∙ sym (maps (act_fate at net) (λ e. Send e key) (send_fate at net key) exporters (λ e. refl))
      in
      let taken : map (taking_fate at key) (filter (passes key) (map (taking_of net) process.aggregations))
      ≡ map (act_fate at net) (map (take_in net key) (filter (takes net key) process.aggregations)) =
      filters (taking_fate at key) (passes key) (taking_of net) (λ a. act_fate at net (take_in net key a))
      (takes net key) process.aggregations (λ a. holding_is
      (project key (layout_of (slice_get net.holders a.holder))) (slice_get net.holders a.holder)) (λ a. refl)
      ∙ sym (maps (act_fate at net) (take_in net key) (λ a. act_fate at net (take_in net key a))
      (filter (takes net key) process.aggregations) (λ a. refl))
      in
      ap₂ (λ (x y : List Fate). x ++ y) sent taken
      ∙ sym (map_append' (act_fate at net) (map (λ e. Send e key) exporters)
      (map (take_in net key) (filter (takes net key) process.aggregations)))

  coming_is : (process : ℕ) (key : Key) → all_happen
      (tallied net.report_layout key (process == net.report)
      ++ handling_fates at key (handling_of net (slice_get net.processes process))) ≡ coming_fate at net process key
  coming_is process key =
      let rest = handling_is key (slice_get net.processes process) in
      elim (process == net.report) as (λ b. all_happen
      (tallied net.report_layout key b ++ handling_fates at key (handling_of net (slice_get net.processes process)))
      ≡ all_happen (map (act_fate at net) (cond b (Tally key ∷ []) []
      ++ acts_of net key (slice_get net.processes process)))) [
        | true ↦ ap (λ fs. all_happen (cond (refines key.layout net.report_layout) Once Unassigned ∷ fs)) rest
        | false ↦ ap all_happen rest
      ]

-- ---- the selection processes that a packet passes

abbrev metering_fates : FateAt → Fields → List Metering → List Fate
metering_fates at fields [] = []
metering_fates at fields (m ∷ ms) =
    cond (selects m.region fields) (holding_fate at (key_of m.holding.layout fields) m.holding ∷ []) []
    ++ metering_fates at fields ms

taken_fates : (at : FateAt) (fields : Fields) (ms : List Metering) → metering_fates at fields ms
    ≡ map (λ h. holding_fate at (key_of h.layout fields) h)
    (map (λ m. m.holding) (filter (λ m. selects m.region fields) ms))
taken_fates at fields [] = refl
taken_fates at fields (m ∷ ms) = by (selects m.region fields) (taken_fates at fields ms)
  where
    by : (b : Bool) → metering_fates at fields ms
        ≡ map (λ h. holding_fate at (key_of h.layout fields) h)
        (map (λ m. m.holding) (filter (λ m. selects m.region fields) ms))
        → cond b (holding_fate at (key_of m.holding.layout fields) m.holding ∷ []) [] ++ metering_fates at fields ms
        ≡ map (λ h. holding_fate at (key_of h.layout fields) h)
        (map (λ m. m.holding) (cond b (m ∷ filter (λ m. selects m.region fields) ms)
        (filter (λ m. selects m.region fields) ms)))
    by true rest = ap (λ fs. holding_fate at (key_of m.holding.layout fields) m.holding ∷ fs) rest
    by false rest = rest

fates_append : (at : FateAt) (fields : Fields) (ms ns : List Metering) → metering_fates at fields (ms ++ ns)
    ≡ metering_fates at fields ms ++ metering_fates at fields ns
fates_append at fields [] ns = refl
fates_append at fields (m ∷ ms) ns =
    let first = cond (selects m.region fields) (holding_fate at (key_of m.holding.layout fields) m.holding ∷ []) [] in
    ap (λ (fs : List Fate). first ++ fs) (fates_append at fields ms ns)
    ∙ joined first (metering_fates at fields ms) (metering_fates at fields ns)
  where
    joined : (xs ys zs : List Fate) → xs ++ (ys ++ zs) ≡ (xs ++ ys) ++ zs
    joined [] ys zs = refl
    joined (x ∷ xs) ys zs = ap (λ fs. x ∷ fs) (joined xs ys zs)

module _ (net : Net) (at : FateAt) (fields : Fields) where
  abbrev occurrence_fate : Occurrence → Fate
  occurrence_fate o = act_fate at net (meet net fields o)

  met_once : (point process : ℕ) (region : Option Bounds) (holder : Option ℕ)
      → metering_fates at fields (metering_of net region holder)
      ≡ map occurrence_fate (cond (selects region fields) (occurrence point process holder) [])
  met_once point process region None = elim (selects region fields) as (λ b. [] ≡ map occurrence_fate (cond b [] []))
      [ true ↦ refl | false ↦ refl ]
  met_once point process region (Some holder) =
      let key = key_of (layout_of (slice_get net.holders holder)) fields in
      let held = holding_is net at key (slice_get net.holders holder) in
      elim (selects region fields) as (λ b. cond b
      (holding_fate at key (holding_of net (slice_get net.holders holder)) ∷ []) [] ++ []
      ≡ map occurrence_fate (cond b (occurrence point process (Some holder)) [])) [
        | true ↦ ap (λ f. f ∷ []) held
        | false ↦ refl
      ]

  by_is : (point process : ℕ) (ss : List Selection) → metering_fates at fields (meterings_of net ss)
      ≡ map occurrence_fate (met_by point process ss fields)
  by_is point process [] = refl
  by_is point process (s ∷ ss) =
      fates_append at fields (metering_of net s.region s.holder) (meterings_of net ss)
      ∙ ap₂ (λ (x y : List Fate). x ++ y) (met_once point process s.region s.holder) (by_is point (process + 1) ss)
      ∙ sym (map_append' occurrence_fate (cond (selects s.region fields) (occurrence point process s.holder) [])
      (met_by point (process + 1) ss fields))

  at_is : (n : ℕ) (points : List Point) (crossing : Crossing)
      → metering_fates at fields (meterings_at net points crossing)
      ≡ map occurrence_fate (met_at n points crossing fields)
  at_is n [] crossing = refl
  at_is n (point ∷ points) crossing =
      let b = watches point crossing in
      let here : metering_fates at fields (cond b (meterings_of net point.selections) [])
      ≡ map occurrence_fate (cond b (met_by n 1 point.selections fields) []) =
      elim b as (λ t. metering_fates at fields (cond t (meterings_of net point.selections) [])
      ≡ map occurrence_fate (cond t (met_by n 1 point.selections fields) [])) [
        | true ↦ by_is n 1 point.selections
        | false ↦ refl
      ]
      in
      fates_append at fields (cond b (meterings_of net point.selections) []) (meterings_at net points crossing)
      ∙ ap₂ (λ (x y : List Fate). x ++ y) here (at_is (n + 1) points crossing)
      ∙ sym (map_append' occurrence_fate (cond b (met_by n 1 point.selections fields) [])
      (met_at (n + 1) points crossing fields))

  along_is : (path : List Crossing) → metering_fates at fields (meterings net path)
      ≡ map (act_fate at net) (acts_along net fields path)
  along_is [] = refl
  along_is (c ∷ cs) =
      let points = points_of (entry_numbered net.devices c.device) in
      fates_append at fields (meterings_at net points c) (meterings net cs)
      ∙ ap₂ (λ (x y : List Fate). x ++ y) (at_is 1 points c
      ∙ sym (maps (act_fate at net) (meet net fields) occurrence_fate (occurrences net c fields) (λ o. refl)))
      (along_is cs) ∙ sym (map_append' (act_fate at net) (crossing_acts net fields (Some c))
      (acts_along net fields cs))

-- ---- by places in the whole

-- the fates of a part's collecting processes, where those at their places in the whole are these
abbrev fates_at : FateAt → List ℕ → FateAt
fates_at at places process key = process_fate at key (slice_get places process)

module _ (at : FateAt) (places : List ℕ) where
  lead_same : (key : Key) (o : Option ℕ) → process_fate at key (lead_in places o)
      ≡ process_fate (fates_at at places) key o
  lead_same key None = refl
  lead_same key (Some process) = refl

  sending_same : (key : Key) (s : Sending) → sending_fate at key (sending_in places s)
      ≡ sending_fate (fates_at at places) key s
  sending_same key s =
      ap (λ fs. cond s.parallel (all_happen fs) (one_happens fs))
      (maps (process_fate at key) (lead_in places) (process_fate (fates_at at places) key) s.leads (lead_same key))

  holding_same : (key : Key) (h : Holding) → holding_fate at key (holding_in places h)
      ≡ holding_fate (fates_at at places) key h
  holding_same key h =
      ap all_happen (maps (sending_fate at key) (sending_in places) (sending_fate (fates_at at places) key) h.sendings
      (sending_same key))

  handling_same : (key : Key) (h : Handling) → handling_fates at key (handling_in places h)
      ≡ handling_fates (fates_at at places) key h
  handling_same key h =
      ap₂ (λ (x y : List Fate). x ++ y) (maps (sending_fate at key) (sending_in places)
      (sending_fate (fates_at at places) key) h.sendings (sending_same key))
      (filters (taking_fate at key) (passes key) (taking_in places) (taking_fate (fates_at at places) key)
      (passes key) h.takings (λ t. holding_same (project key t.holding.layout) t.holding) (λ t. refl))

  -- the fates of what is taken in
  taken_same : (fields : Fields) (hs : List Holding)
      → map (λ h. holding_fate at (key_of h.layout fields) h) (map (holding_in places) hs)
      ≡ map (λ h. holding_fate (fates_at at places) (key_of h.layout fields) h) hs
  taken_same fields hs =
      maps (λ h. holding_fate at (key_of h.layout fields) h) (holding_in places)
      (λ h. holding_fate (fates_at at places) (key_of h.layout fields) h) hs
      (λ h. holding_same (key_of h.layout fields) h)

-- ---- in a part

pub same_test : (a b c d : ℕ) → (a ≡ b → c ≡ d) → (c ≡ d → a ≡ b) → (a == b) ≡ (c == d)
same_test a b c d to from =
    elim (a == b) as (λ x. (a == b) ≡ x → x ≡ (c == d)) [
      | true ↦ λ yes. (let e : a ≡ b = grind (arith, nat_tests, yes) in let f : c ≡ d = to e in
          let g : (c == d) ≡ true = grind (arith, nat_tests, f) in sym g)
      | false ↦ λ no. (elim (c == d) as (λ y. (c == d) ≡ y → false ≡ y) [
        | true ↦ λ yes. (let f : c ≡ d = grind (arith, nat_tests, yes) in let e : a ≡ b = from f in
            absurd (let x : (a == b) ≡ true = grind (arith, nat_tests, e) in cc))
        | false ↦ λ k. refl
      ] refl)
    ] refl

module _ (part whole : Net) (places : List ℕ) (is_part : IsPart part whole places) (in_part : IsRanked part)
    (in_whole : IsRanked whole) where
  abbrev at : FateAt
  at = fate whole

  abbrev inner_at : FateAt
  inner_at = fates_at at places

  pub test_of : (process place : ℕ) → slice_get places process ≡ Some place → (place == whole.report)
      ≡ (process == part.report)
  test_of process place e =
      same_test place whole.report process part.report (λ h. is_part.report_only process (e ∙ ap Some h))
      (λ h. (let f : Some place ≡ Some whole.report = sym e ∙ ap (slice_get places) h ∙ is_part.report in cc))

  pub not_tested : (process : ℕ) → slice_get places process ≡ None → (process == part.report) ≡ false
  not_tested process e =
      elim (process == part.report) as (λ b. (process == part.report) ≡ b → b ≡ false) [
        | true ↦ λ yes. (let h : process ≡ part.report = grind (arith, nat_tests, yes) in
            let f : None ≡ Some whole.report = sym e ∙ ap (slice_get places) h ∙ is_part.report in absurd cc)
        | false ↦ λ no. refl
      ] refl

  pub not_there : (process : ℕ) → slice_get places process ≡ None → slice_get part.processes process ≡ None
  not_there process e =
      elim (slice_get_cases places process).1 [
        | inl h ↦ absurd (let f : None ≡ Some h.0 = sym e ∙ h.2 in cc)
        | inr h ↦ slice_get_past part.processes process (subst (λ n. n ≤ process) is_part.each h.0)
      ]

  -- a collecting process that the part doesn't have
  beyond : (process : ℕ) (key : Key) → slice_get places process ≡ None → Never ≡ coming_fate inner_at part process key
  beyond process key e =
      let empty : Never ≡ all_happen (tallied part.report_layout key false
      ++ handling_fates inner_at key (handling_of part None)) = refl in
      empty ∙ ap₂ (λ b o. all_happen (tallied part.report_layout key b
      ++ handling_fates inner_at key (handling_of part o))) (sym (not_tested process e)) (sym (not_there process e))
      ∙ coming_is part inner_at process key

  inside : (process place : ℕ) (key : Key) → slice_get places process ≡ Some place → at place key
      ≡ coming_fate inner_at part process key
  inside process place key e =
      agrees whole in_whole place key ∙ sym (coming_is whole at place key)
      ∙ ap₂ (λ (fs gs : List Fate). all_happen (fs ++ gs))
      (ap₂ (λ layout b. tallied layout key b) (sym is_part.report_layout) (test_of process place e))
      (ap (handling_fates at key) (is_part.same process place e)
      ∙ handling_same at places key (handling_of part (slice_get part.processes process)))
      ∙ coming_is part inner_at process key

  are_fates : AreFates part inner_at
  are_fates process key = by (slice_get places process) refl
    where
      by : (o : Option ℕ) → slice_get places process ≡ o → process_fate at key o ≡ coming_fate inner_at part process key
      by None e = beyond process key e
      by (Some place) e = inside process place key e

  fates_same : (process : ℕ) (key : Key) → inner_at process key ≡ fate part process key
  fates_same = only part in_part inner_at are_fates

  -- a record has the same fate in both
  pub record_fates : (process place : ℕ) (key : Key) → slice_get places process ≡ Some place → fate part process key
      ≡ fate whole place key
  record_fates process place key e = sym (fates_same process key) ∙ ap (process_fate at key) e

  -- ---- packets

  same_at : inner_at ≡ fate part
  same_at = λ i. λ process. λ key. fates_same process key i

  -- a packet has the same fate on paths on which the same caches take it in
  pub packet_fates : (region : Bounds) (inner outer : List Crossing)
      → TakesInTheSame part whole places region inner outer → (fields : Fields) → holds region fields ≡ true
      → packet_fate part fields inner ≡ packet_fate whole fields outer
  packet_fates region inner outer takes fields h =
      ap all_happen (sym (along_is part (fate part) fields inner)
      ∙ taken_fates (fate part) fields (meterings part inner)
      ∙ ap (λ (f : FateAt). map (λ h. holding_fate f (key_of h.layout fields) h) (taken_by part inner fields))
      (sym same_at) ∙ sym (taken_same at places fields (taken_by part inner fields))
      ∙ ap (map (λ h. holding_fate at (key_of h.layout fields) h)) (sym (takes fields h))
      ∙ sym (taken_fates at fields (meterings whole outer)) ∙ along_is whole at fields outer)

-- where a packet passes the same selection processes, the same caches take it in
pub sees_takes : (part whole : Net) (places : List ℕ) (region : Bounds) (inner outer : List Crossing)
    → MetersTheSame part whole places inner outer → TakesInTheSame part whole places region inner outer
sees_takes part whole places region inner outer sees fields h =
    ap (λ ms. map (λ m. m.holding) (filter (λ m. selects m.region fields) ms)) sees
    ∙ filters (λ m. m.holding) (λ m. selects m.region fields) (metering_in places)
    (λ m. holding_in places m.holding) (λ m. selects m.region fields) (meterings part inner) (λ m. refl) (λ m. refl)
    ∙ sym (maps (holding_in places) (λ m. m.holding) (λ m. holding_in places m.holding)
    (filter (λ m. selects m.region fields) (meterings part inner)) (λ m. refl))
