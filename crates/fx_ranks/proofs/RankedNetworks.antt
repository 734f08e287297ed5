-- Networks whose processes all come in the order of ranks are ranked.
use Rattle.std.proofs.Common.{◌≡◌, ℕ, ◌<◌, ◌≤◌, ◌==◌, true, List, [], ◌∷◌, length, Contains, Option, Some, None, refl, subst, arith, ◌⊎◌, inl, inr, eqb-true, slice_get, reverse, get_or}
use mathlib.Core.List.{reverse_aux}
use Rattle.std.specs.List.{list_any}
use Rattle.std.proofs.lemmas.Bool.{or_cases, or_left, or_right, eq-eqb}
use Rattle.std.proofs.lemmas.List.Folds.{list_any_at, Any-from_list_any}
use Rattle.fx_layout.specs.Keys.{Fits}
use Rattle.fx_tables.specs.Network.{Net, Exporter, Process, AggregationEntry, at_places, exporters_of, layout_of}
use Rattle.fx_tables.specs.Ranks.{RisesTo, Rises, AllRise, ProcessRises, IsRanked, IsNetwork}
use Rattle.fx_ranks.specs.Feeding.{feeds, feeds_by, lead_to, leads_to, is_place}
use Rattle.fx_ranks.specs.Ranks.{is_in, rank_in, IsDescending, IsWhole, LinksLead}
use Rattle.fx_ranks.proofs.OrderKeeps.{all_ranked, feeders_before, place_bound, descending}

-- ---- what a process feeds has a higher rank

rises_to : (rank : ℕ → ℕ) (from : ℕ) (o : Option ℕ) → ((q : ℕ) → is_place q o ≡ true → rank from < rank q)
    → RisesTo rank from o
rises_to rank from None h = tt
rises_to rank from (Some place) h = h place (eq-eqb place place refl)

rises_if : (net : Net) (rank : ℕ → ℕ) (from : ℕ) (o : Option ℕ)
    → ((q : ℕ) → leads_to net q o ≡ true → rank from < rank q) → Rises rank net from o
rises_if net rank from None h = tt
rises_if net rank from (Some link) h = rises_to rank from (slice_get net.links link) h

all_rise : (net : Net) (rank : ℕ → ℕ) (from : ℕ) (exporters : List Exporter)
    → ((q : ℕ) → lead_to net q exporters ≡ true → rank from < rank q) → AllRise rank net from exporters
all_rise net rank from exporters h k e low j o lower =
    rises_if net rank from (get_or (get_or exporters k e).destinations j o) (λ q led.
    h q (list_any_at (λ (x : Exporter). list_any (leads_to net q) x.destinations) exporters k e low
    (list_any_at (leads_to net q) (get_or exporters k e).destinations j o lower led)))

process_rises : (net : Net) (rank : ℕ → ℕ) (from : ℕ) (o : Option Process)
    → ((q : ℕ) → feeds_by net q o ≡ true → rank from < rank q) → ProcessRises rank net from o
process_rises net rank from None h = tt
process_rises net rank from (Some process) h = (
  all_rise net rank from (at_places net.exporters process.exporters)
      (λ q led. h q (or_left (lead_to net q (at_places net.exporters process.exporters))
      (list_any (λ a. lead_to net q (exporters_of net (slice_get net.holders a.holder))) process.aggregations) led)),
  λ k a low. all_rise net rank from (exporters_of net (slice_get net.holders (get_or process.aggregations k a).holder))
      (λ q led.
      h q (or_right (lead_to net q (at_places net.exporters process.exporters))
      (list_any (λ a. lead_to net q (exporters_of net (slice_get net.holders a.holder))) process.aggregations)
      (list_any_at (λ (a : AggregationEntry). lead_to net q (exporters_of net (slice_get net.holders a.holder)))
      process.aggregations k a low led))),
)

-- ---- links lead to processes

place_within : (net : Net) (q : ℕ) (o : Option ℕ) → ((place : ℕ) → o ≡ Some place → place < length net.processes)
    → is_place q o ≡ true → q < length net.processes
place_within net q None h e = cc
place_within net q (Some place) h e = subst (λ (x : ℕ). x < length net.processes) (eqb-true place q e) (h place refl)

led_within : (net : Net) → LinksLead net → (q : ℕ) (o : Option ℕ) → leads_to net q o ≡ true → q < length net.processes
led_within net leads q None e = cc
led_within net leads q (Some link) e = place_within net q (slice_get net.links link) (λ place is. leads link place is) e

all_led_within : (net : Net) → LinksLead net → (q : ℕ) (exporters : List Exporter) → lead_to net q exporters ≡ true → q
    < length net.processes
all_led_within net leads q exporters e =
    let some = Any-from_list_any (λ (x : Exporter). list_any (leads_to net q) x.destinations) exporters e in
    let one = Any-from_list_any (leads_to net q) some.1.destinations some.4 in
    led_within net leads q one.1 one.4

process_within : (net : Net) → LinksLead net → (q : ℕ) (o : Option Process) → feeds_by net q o ≡ true → q
    < length net.processes
process_within net leads q None e = cc
process_within net leads q (Some process) e =
    elim (or_cases (lead_to net q (at_places net.exporters process.exporters))
    (list_any (λ a. lead_to net q (exporters_of net (slice_get net.holders a.holder))) process.aggregations) e) [
      | inl f ↦ all_led_within net leads q (at_places net.exporters process.exporters) f
      | inr f ↦
          (let some = Any-from_list_any (λ (a : AggregationEntry). lead_to net q
          (exporters_of net (slice_get net.holders a.holder))) process.aggregations f in
          all_led_within net leads q (exporters_of net (slice_get net.holders some.1.holder)) some.4)
    ]

pub fed_within : (net : Net) → LinksLead net → (p q : ℕ) → feeds net p q ≡ true → q < length net.processes
fed_within net leads p q f = process_within net leads q (slice_get net.processes p) f

-- ---- ranks

pub ranked : (net : Net) (order : List ℕ) → IsWhole net order → IsRanked net
ranked net order w =
    record {
      rank = rank_in order;
      below = λ process. (elim (place_bound order 0 process) [
        | inl e ↦ (let some : 0 < length net.processes = w.some in omega arith)
        | inr e ↦
            (let short : length order ≤ length net.processes = w.short in omega arith)
      ]);
      rises = λ process. process_rises net (rank_in order) process (slice_get net.processes process) (λ q f.
          feeders_before net (rank_in order) [] order 0 w.order_is (λ p e. cc)
          (all_ranked net order [] order 0 refl refl w.order_is) process q
          (w.all q (fed_within net w.leads process q f)) f);
    }

-- ---- the order turned round

is_in_behind : (xs ys : List ℕ) (p : ℕ) → (is_in xs p ≡ true) ⊎ (is_in ys p ≡ true) → is_in (reverse_aux xs ys) p ≡ true
is_in_behind [] ys p h = elim h [ inl e ↦ cc | inr e ↦ e ]
is_in_behind (x ∷ xs) ys p h =
    is_in_behind xs (x ∷ ys) p (elim h [
      | inl e ↦ elim (or_cases (x == p) (is_in xs p) e)
          [ inl f ↦ inr (or_left (x == p) (is_in ys p) f) | inr f ↦ inl f ]
      | inr e ↦ inr (or_right (x == p) (is_in ys p) e)
    ])

pub contained : (xs : List ℕ) (p : ℕ) → is_in xs p ≡ true → Contains xs p
contained xs p e =
    let one = Any-from_list_any (λ (x : ℕ). x == p) xs e in
    subst (λ (x : ℕ). Contains xs x) (eqb-true one.1 p one.4) (one.0, one.2, one.3)

pub turned : (net : Net) (order : List ℕ) → IsWhole net order → IsDescending net (reverse order)
unfolding ranked
turned net order w =
    record {
      ranked = ranked net order w;
      descends = descending net (rank_in order) [] order [] 0 w.order_is (λ p e. cc)
          (all_ranked net order [] order 0 refl refl w.order_is) (λ q low. inr (w.all q low)) (λ done h. tt);
      whole = λ process low. contained (reverse order) process
          (is_in_behind order [] process (inl (w.all process low)));
    }

pub network : (net : Net) (order : List ℕ) → IsWhole net order
    → ((holder : ℕ) → Fits (layout_of (slice_get net.holders holder))) → IsNetwork net
network net order w fits = record { ranked = ranked net order w; fits = fits }
