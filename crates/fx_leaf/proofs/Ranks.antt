-- Along the ranks, a fate is the one that its own equation gives.
use Rattle.std.proofs.Common.{◌≡◌, ℕ, zero, suc, ◌+◌, ◌<◌, ◌≤◌, Bool, true, false, cond, ◌&&◌, ◌==◌, List, [], ◌∷◌, ◌++◌, map, filter, length, All, Option, Some, None, refl, ap, ap₂, ◌∙◌, arith, slice_get}
use Rattle.std.specs.List.{list_all}
use Rattle.fx_layout.specs.Keys.{Key, refines, project, reads, bits_on}
use Rattle.fx_layout.proofs.Projections.{and_true, refines_through}
use Rattle.fx_tables.specs.Network.{at_places, Exporter, Holder, AggregationEntry, Process, Net, exporters_of, layout_of, takes}
use Rattle.fx_machine.specs.Acts.{Act, Tally, Send}
use Rattle.fx_machine.specs.Steps.{take_in, acts_of, coming_to}
use Rattle.fx_tables.specs.Ranks.{RisesTo, Rises, AllRise, ProcessRises, IsRanked}
use Rattle.fx_leaf.specs.declared.verdict.Fate.TheVariants.{Once, Unassigned}
use Rattle.fx_leaf.specs.Fates.{AreFates, FateAt, all_happen, one_happens, process_fate, destination_fate, send_fate, held_fate, act_fate, fate_within, fate}
use Rattle.fx_leaf.proofs.FateLaws.{Every, every_append, some_once}
use Rattle.fx_leaf.proofs.Steps.{IsFate, every_map, every_map_filter, send_once, held_once}

pub every_of_all : {A : Type 0} (P : A → Type 0) (xs : List A) → All P xs → Every P xs
every_of_all P [] h = tt
every_of_all P (x ∷ xs) h = (h 0 x (omega arith), every_of_all P xs (λ k. λ d. λ lt. h (suc k) d (omega arith)))

pub map_same : {A B : Type 0} (f g : A → B) (xs : List A) → Every (λ x. f x ≡ g x) xs → map f xs ≡ map g xs
map_same f g [] h = refl
map_same f g (x ∷ xs) h = ap₂ (λ y ys. y ∷ ys) h.0 (map_same f g xs h.1)

pub every_on : {A : Type 0} (P R : A → Type 0) (xs : List A) → ((x : A) → P x → R x) → Every P xs → Every R xs
every_on P R [] f h = tt
every_on P R (x ∷ xs) f h = (f x h.0, every_on P R xs f h.1)

every_map_on : {A B : Type 0} (P : B → Type 0) (R : A → Type 0) (g : A → B) (xs : List A) → ((x : A) → R x → P (g x))
    → Every R xs → Every P (map g xs)
every_map_on P R g [] f h = tt
every_map_on P R g (x ∷ xs) f h = (f x h.0, every_map_on P R g xs f h.1)

every_filter : {A : Type 0} (P : A → Type 0) (test : A → Bool) (xs : List A) → Every P xs → Every P (filter test xs)
every_filter P test [] h = tt
every_filter P test (x ∷ xs) h =
    let rest = every_filter P test xs h.1 in
    elim (test x) as (λ b. Every P (cond b (x ∷ filter test xs) (filter test xs))) [ true ↦ (h.0, rest) | false ↦ rest ]

-- two that agree at the processes of higher rank
module _ (net : Net) (rank : ℕ → ℕ) (from : ℕ) (f g : FateAt)
    (agree : (process : ℕ) (key : Key) → rank from < rank process → f process key ≡ g process key) where
  process_same : (key : Key) (o : Option ℕ) → RisesTo rank from o → process_fate f key o ≡ process_fate g key o
  process_same key None h = refl
  process_same key (Some process) h = agree process key h

  destination_same : (key : Key) (d : Option ℕ) → Rises rank net from d → destination_fate f net key d
      ≡ destination_fate g net key d
  destination_same key None h = refl
  destination_same key (Some link) h = process_same key (slice_get net.links link) h

  send_same : (key : Key) (e : Exporter) → All (Rises rank net from) e.destinations → send_fate f net key e
      ≡ send_fate g net key e
  send_same key e h =
      let each = every_on (Rises rank net from) (λ d. destination_fate f net key d ≡ destination_fate g net key d)
      e.destinations (destination_same key) (every_of_all (Rises rank net from) e.destinations h) in
      ap (λ fs. cond e.parallel (all_happen fs) (one_happens fs))
      (map_same (destination_fate f net key) (destination_fate g net key) e.destinations each)

  sends_same : (key : Key) (es : List Exporter) → AllRise rank net from es
      → Every (λ e. send_fate f net key e ≡ send_fate g net key e) es
  sends_same key es h =
      every_on (λ e. All (Rises rank net from) e.destinations) (λ e. send_fate f net key e ≡ send_fate g net key e) es
      (send_same key) (every_of_all (λ e. All (Rises rank net from) e.destinations) es h)

  held_same : (key : Key) (o : Option Holder) → AllRise rank net from (exporters_of net o) → held_fate f net key o
      ≡ held_fate g net key o
  held_same key o h = ap all_happen (map_same (send_fate f net key) (send_fate g net key) (exporters_of net o)
      (sends_same key (exporters_of net o) h))

  abbrev SameFate : Act → Type 0
  SameFate a = act_fate f net a ≡ act_fate g net a

  acts_same : (key : Key) (o : Option Process) → ProcessRises rank net from o → Every SameFate (acts_of net key o)
  acts_same key None h = tt
  acts_same key (Some process) h =
      let P : AggregationEntry → Type 0 = λ a. AllRise rank net from (exporters_of net (slice_get net.holders a.holder))
      in
      let taken = every_filter P (takes net key) process.aggregations (every_of_all P process.aggregations h.1) in
      every_append SameFate (map (λ e. Send e key) (at_places net.exporters process.exporters))
      (map (take_in net key) (filter (takes net key) process.aggregations))
      (every_map_on SameFate (λ e. send_fate f net key e ≡ send_fate g net key e) (λ e. Send e key)
      (at_places net.exporters process.exporters) (λ e. λ same. same)
      (sends_same key (at_places net.exporters process.exporters) h.0))
      (every_map_on SameFate P (take_in net key) (filter (takes net key) process.aggregations)
      (λ a. λ rises. held_same (project key (layout_of (slice_get net.holders a.holder)))
      (slice_get net.holders a.holder) rises) taken)

  coming_same : (key : Key) → ProcessRises rank net from (slice_get net.processes from)
      → map (act_fate f net) (coming_to net key from) ≡ map (act_fate g net) (coming_to net key from)
  coming_same key h =
      let rest = acts_same key (slice_get net.processes from) h in
      map_same (act_fate f net) (act_fate g net) (coming_to net key from)
      (elim (from == net.report) as (λ b. Every SameFate
      (cond b (Tally key ∷ []) [] ++ acts_of net key (slice_get net.processes from))) [
        | true ↦ (refl, rest)
        | false ↦ rest
      ])

module _ (net : Net) (at : FateAt) (on : (q : ℕ) (k : Key) → at q k ≡ Once → refines k.layout net.report_layout ≡ true)
  where
    -- an act that comes to be counted once has a key whose layout refines the report's
    abbrev Refined : Key → Act → Type 0
    Refined key a = act_fate at net a ≡ Once → refines key.layout net.report_layout ≡ true

    taken_refined : (key : Key) (a : AggregationEntry) → takes net key a ≡ true → Refined key (take_in net key a)
    taken_refined key a t once =
        let layout = layout_of (slice_get net.holders a.holder) in
        let reads' = and_true (refines key.layout layout)
        (list_all (λ e. reads key.layout e.axis e.bits && bits_on key e.axis e.bits == e.value) a.matches) t in
        refines_through key.layout layout net.report_layout reads'.0
        (held_once at net on (project key layout) (slice_get net.holders a.holder) once)

    tally_refined : (key : Key) → Refined key (Tally key)
    tally_refined key h =
        elim (refines key.layout net.report_layout) as (λ b. cond b Once Unassigned ≡ Once → b ≡ true)
        [ true ↦ λ k. refl | false ↦ λ k. absurd (cc) ] h

    acts_refined : (key : Key) (o : Option Process) → Every (Refined key) (acts_of net key o)
    acts_refined key None = tt
    acts_refined key (Some process) =
        every_append (Refined key) (map (λ e. Send e key) (at_places net.exporters process.exporters))
        (map (take_in net key) (filter (takes net key) process.aggregations))
        (every_map (Refined key) (λ e. Send e key) (at_places net.exporters process.exporters)
        (λ e. send_once at net on key e)) (every_map_filter (Refined key) (take_in net key) (takes net key)
        process.aggregations (taken_refined key))

    coming_once : (key : Key) (process : ℕ) → Every (Refined key) (coming_to net key process)
    coming_once key process =
        let rest = acts_refined key (slice_get net.processes process) in
        elim (process == net.report) as (λ b. Every (Refined key)
        (cond b (Tally key ∷ []) [] ++ acts_of net key (slice_get net.processes process))) [
          | true ↦ (tally_refined key, rest)
          | false ↦ rest
        ]

module _ (net : Net) (ranked : IsRanked net) where
  -- more processes in a row change nothing
  enough : (n process : ℕ) (key : Key) → length net.processes ≤ n + ranked.rank process → fate_within net n process key
      ≡ fate_within net (suc n) process key
  enough zero process key h = let b = ranked.below process in absurd (omega arith)
  enough (suc n) process key h =
      ap all_happen (coming_same net ranked.rank process (fate_within net n) (fate_within net (suc n))
      (λ q. λ k. λ lt. enough n q k (omega (arith, lt, h))) key (ranked.rises process))

  refined_within : (n process : ℕ) (key : Key) → fate_within net n process key ≡ Once
      → refines key.layout net.report_layout ≡ true
  refined_within zero process key h = absurd (cc)
  refined_within (suc n) process key h =
      let at = fate_within net n in
      let P : Type 0 = refines key.layout net.report_layout ≡ true in
      let on : (q : ℕ) (k : Key) → at q k ≡ Once → refines k.layout net.report_layout ≡ true = refined_within n in
      some_once (act_fate at net) P (coming_to net key process) (coming_once net at on key process) h

  -- the fate of a key is the one that its own equation gives
  pub agrees : AreFates net (fate net)
  agrees process key = enough (length net.processes) process key (omega arith)

  only_within : (at : FateAt) → AreFates net at → (n process : ℕ) (key : Key) → length net.processes ≤ n
      + ranked.rank process → at process key ≡ fate_within net n process key
  only_within at fates zero process key h = let b = ranked.below process in absurd (omega arith)
  only_within at fates (suc n) process key h =
      fates process key ∙ ap all_happen (coming_same net ranked.rank process at (fate_within net n)
      (λ q. λ k. λ lt. only_within at fates n q k (omega (arith, lt, h))) key (ranked.rises process))

  -- and no other fates agree
  pub only : (at : FateAt) → AreFates net at → (process : ℕ) (key : Key) → at process key ≡ fate net process key
  only at fates process key = only_within at fates (length net.processes) process key (omega arith)

  pub is_fate : IsFate (fate net) net
  is_fate = record {
    unfolds = agrees;
    refined = refined_within (length net.processes);
  }
