-- Where not all processes come, those that don't are stuck, and no others are.
use Rattle.std.proofs.Common.{◌≡◌, ℕ, zero, suc, All, Option, Some, None, slice_get, eqb-true, subst, ◌<◌, ◌≤◌, Bool, true, false, not, List, [], length, map, filter, get_or, sym, ap, ◌∙◌, arith, inl, inr}
use Rattle.std.specs.List.{list_all, list_any, range_with_len}
use Rattle.std.proofs.lemmas.Bool.{cases_Bool, or_cases, both_ways, not-true, not_from_false}
use Rattle.std.proofs.lemmas.List.Folds.{list_all-map, Any-from_list_any}
use Rattle.std.proofs.lemmas.List.FromFn.{length-map-range_with_len, get_or-map-range_with_len}
use Rattle.fx_tables.specs.Network.{Net, Exporter, Process, AggregationEntry, at_places, exporters_of}
use Rattle.fx_tables.specs.Ranks.{RisesTo, Rises, AllRise, ProcessRises, IsRanked}
use Rattle.fx_ranks.specs.Feeding.{feeds, feeds_by, is_place, lead_to, leads_to, places_of}
use Rattle.fx_plan.specs.Plans.{IsResolved}
use Rattle.fx_ranks.specs.Ranks.{AreStuck, IsFedWithin, IsRankOrder, IsStuck, IsWhole, is_in}
use Rattle.fx_ranks.proofs.OrderKeeps.{all_in, feeder_within, left_stuck, none_stuck, some_not}
use Rattle.fx_ranks.proofs.Ranges.{filter_same}

pub whole_if : (net : Net) (order : List ℕ) (come : List Bool) → IsRankOrder net order → come
    ≡ map (is_in order) (places_of net) → length order ≤ length net.processes → IsResolved net → list_all (λ c. c) come
    ≡ true → IsWhole net order
whole_if net order come c e short resolved h =
    let all : list_all (is_in order) (places_of net) ≡ true =
    sym (list_all-map (λ (b : Bool). b) (is_in order) (places_of net))
    ∙ (ap (list_all (λ (b : Bool). b)) (sym e) ∙ h) in
    let last : net.report < length net.processes = resolved.report in
    record {
      order_is = c;
      short = short;
      all = λ process low. all_in (is_in order) 0 (length net.processes) all process (omega arith) (omega arith);
      some = omega arith;
      leads = resolved.leads;
    }

abbrev pub stuck_places : List Bool → List ℕ
stuck_places come = filter (λ place. not (get_or come place false)) (range_with_len 0 (length come))

pub stuck_if : (net : Net) (order : List ℕ) (come : List Bool) → IsRankOrder net order → come
    ≡ map (is_in order) (places_of net) → AreStuck net (stuck_places come)
stuck_if net order come c e =
    let long : length come ≡ length net.processes = ap length e
    ∙ length-map-range_with_len (is_in order) 0 (length net.processes) in
    record {
      test = λ q. not (is_in order q);
      yes = λ process low h. left_stuck net order c process low (not-true (is_in order process) h);
      no = λ process low s.
          (elim (cases_Bool (is_in order process)) [
            | inl y ↦ absurd (both_ways (s.among process)
                (none_stuck net s.among [] order c s.within (λ p f. cc) process y) s.is_among)
            | inr n ↦ not_from_false (is_in order process) n
          ]);
      all =
          ap (λ (n : ℕ). filter (λ place. not (get_or come place false)) (range_with_len 0 n)) long
          ∙ filter_same (λ place. not (get_or come place false)) (λ q. not (is_in order q)) 0 (length net.processes)
          (λ k low high.
          ap not (ap (λ (l : List Bool). get_or l k false) e
          ∙ get_or-map-range_with_len (is_in order) 0 (length net.processes) k k false (omega arith)
          (omega arith)));
    }

pub one_stuck : (net : Net) (order : List ℕ) (come : List Bool) → IsRankOrder net order → come
    ≡ map (is_in order) (places_of net) → list_all (λ c. c) come ≡ false → (process : ℕ)
    × (process < length net.processes) × IsStuck net process
one_stuck net order come c e h =
    let some : list_all (is_in order) (places_of net) ≡ false =
    sym (list_all-map (λ (b : Bool). b) (is_in order) (places_of net))
    ∙ (ap (list_all (λ (b : Bool). b)) (sym e) ∙ h) in
    let w = some_not (is_in order) 0 (length net.processes) some in
    let low : w.0 < length net.processes = omega (arith, w.2) in
    (w.0, low, left_stuck net order c w.0 low w.3)

pub none_are_stuck : (net : Net) (order : List ℕ) → IsWhole net order → (process : ℕ) → IsStuck net process → ⊥
none_are_stuck net order w process s =
    let f = s.within.feeder process s.is_among in
    let come = w.all f.0 (feeder_within net f.0 process f.2) in
    both_ways (s.among f.0) (none_stuck net s.among [] order w.order_is s.within (λ p e. cc) f.0 come) f.1

-- ---- where processes are stuck there are no ranks

rises_to_place : (rank : ℕ → ℕ) (from q : ℕ) (o : Option ℕ) → RisesTo rank from o → is_place q o ≡ true → rank from
    < rank q
rises_to_place rank from q None h e = cc
rises_to_place rank from q (Some place) h e = subst (λ (x : ℕ). rank from < rank x) (eqb-true place q e) h

rises_along : (net : Net) (rank : ℕ → ℕ) (from q : ℕ) (o : Option ℕ) → Rises rank net from o → leads_to net q o ≡ true
    → rank from < rank q
rises_along net rank from q None h e = cc
rises_along net rank from q (Some link) h e = rises_to_place rank from q (slice_get net.links link) h e

all_rise_along : (net : Net) (rank : ℕ → ℕ) (from q : ℕ) (exporters : List Exporter) → AllRise rank net from exporters
    → lead_to net q exporters ≡ true → rank from < rank q
all_rise_along net rank from q exporters h e =
    let some = Any-from_list_any (λ (x : Exporter). list_any (leads_to net q) x.destinations) exporters e in
    let one = Any-from_list_any (leads_to net q) some.1.destinations some.4 in
    let here : All (Rises rank net from) some.1.destinations =
    subst (λ (x : Exporter). All (Rises rank net from) x.destinations) some.3 (h some.0 some.1 some.2) in
    rises_along net rank from q one.1 (subst (λ (o : Option ℕ). Rises rank net from o) one.3 (here one.0 one.1 one.2))
    one.4

process_rises_along : (net : Net) (rank : ℕ → ℕ) (from q : ℕ) (o : Option Process) → ProcessRises rank net from o
    → feeds_by net q o ≡ true → rank from < rank q
process_rises_along net rank from q None h e = cc
process_rises_along net rank from q (Some process) h e =
    elim (or_cases (lead_to net q (at_places net.exporters process.exporters))
    (list_any (λ a. lead_to net q (exporters_of net (slice_get net.holders a.holder))) process.aggregations) e) [
      | inl f ↦ all_rise_along net rank from q (at_places net.exporters process.exporters) h.0 f
      | inr f ↦
          (let some = Any-from_list_any (λ (a : AggregationEntry). lead_to net q
          (exporters_of net (slice_get net.holders a.holder))) process.aggregations f in
          let here : AllRise rank net from (exporters_of net (slice_get net.holders some.1.holder)) =
          subst (λ (a : AggregationEntry). AllRise rank net from
          (exporters_of net (slice_get net.holders a.holder))) some.3 (h.1 some.0 some.1 some.2) in
          all_rise_along net rank from q (exporters_of net (slice_get net.holders some.1.holder)) here some.4)
    ]

pub rank_rises : (net : Net) (r : IsRanked net) (p q : ℕ) → feeds net p q ≡ true → r.rank p < r.rank q
rank_rises net r p q f = process_rises_along net r.rank p q (slice_get net.processes p) (r.rises p) f

none_below : (net : Net) (r : IsRanked net) (among : ℕ → Bool) → IsFedWithin net among → (n p : ℕ) → r.rank p < n
    → among p ≡ true → ⊥
none_below net r among fed zero p low h = absurd (omega arith)
none_below net r among fed (suc n) p low h =
    let f = fed.feeder p h in
    let lower : r.rank f.0 < r.rank p = rank_rises net r f.0 p f.2 in
    none_below net r among fed n f.0 (omega arith) f.1

pub no_ranks : (net : Net) (process : ℕ) → IsStuck net process → IsRanked net → ⊥
no_ranks net process s r = none_below net r s.among s.within (suc (r.rank process)) process (omega arith) s.is_among
