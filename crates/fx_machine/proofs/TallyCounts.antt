-- How many of the acts that a step leads to tally: at most one, that of an arrival at the report.
use Rattle.std.proofs.Common.{◌≡◌, ℕ, suc, ◌+◌, ◌≤◌, true, false, cond, ◌==◌, List, [], ◌∷◌, ◌++◌, map, filter, Option, Some, None, refl, arith, slice_get}
use Rattle.fx_elements.specs.Axes.{Fields}
use Rattle.fx_layout.specs.Keys.{Key}
use Rattle.fx_tables.specs.declared.observation.Occurrence.{Occurrence}
use Rattle.fx_tables.specs.declared.traffic.Crossing.{Crossing}
use Rattle.fx_tables.specs.Network.{Net, AggregationEntry, Exporter, Process, at_places, exporters_of, takes}
use Rattle.fx_tables.specs.Occurrences.{occurrences}
use Rattle.fx_machine.specs.Acts.{Act, Tally, Send, Hold}
use Rattle.fx_machine.specs.Steps.{meet, crossing_acts, acts_of_leaving, take_in, acts_of, coming_to, acts_of_arrival}

-- how many of the acts tally
abbrev pub tally_count : List Act → ℕ
tally_count [] = 0
tally_count (Tally key ∷ acts) = suc (tally_count acts)
tally_count (Send e key ∷ acts) = tally_count acts
tally_count (Hold h key ∷ acts) = tally_count acts

pub count_append : (xs ys : List Act) → tally_count (xs ++ ys) ≡ tally_count xs + tally_count ys
count_append [] ys = omega arith
count_append (Tally key ∷ acts) ys = let h = count_append acts ys in omega arith
count_append (Send e key ∷ acts) ys = count_append acts ys
count_append (Hold h key ∷ acts) ys = count_append acts ys

count_sends : (es : List Exporter) (key : Key) → tally_count (map (λ e. Send e key) es) ≡ 0
count_sends [] key = refl
count_sends (e ∷ es) key = count_sends es key

module _ (net : Net) where
  count_takes : (key : Key) (as' : List AggregationEntry) → tally_count (map (take_in net key) as') ≡ 0
  count_takes key [] = refl
  count_takes key (a ∷ as') = count_takes key as'

  pub count_meets : (fields : Fields) (os : List Occurrence) → tally_count (map (meet net fields) os) ≡ 0
  count_meets fields [] = refl
  count_meets fields (o ∷ os) = count_meets fields os

  pub crossing_count : (fields : Fields) (c : Option Crossing) → tally_count (crossing_acts net fields c) ≡ 0
  crossing_count fields None = refl
  crossing_count fields (Some c) = count_meets fields (occurrences net c fields)

  pub leaving_count : (holder : ℕ) (key : Key) → tally_count (acts_of_leaving net holder key) ≡ 0
  leaving_count holder key = count_sends (exporters_of net (slice_get net.holders holder)) key

  handled_count : (key : Key) (o : Option Process) → tally_count (acts_of net key o) ≡ 0
  handled_count key None = refl
  handled_count key (Some process) =
      let sends = count_sends (at_places net.exporters process.exporters) key in
      let takes' = count_takes key (filter (takes net key) process.aggregations) in
      let all = count_append (map (λ e. Send e key) (at_places net.exporters process.exporters))
      (map (take_in net key) (filter (takes net key) process.aggregations)) in
      omega arith

  coming_count : (key : Key) (process : ℕ) → tally_count (coming_to net key process) ≤ 1
  coming_count key process =
      let rest = handled_count key (slice_get net.processes process) in
      elim (process == net.report) as (λ b. tally_count
      (cond b (Tally key ∷ []) [] ++ acts_of net key (slice_get net.processes process)) ≤ 1) [
        | true ↦ omega arith
        | false ↦ omega arith
      ]

  pub arriving_count : (key : Key) (o : Option ℕ) → tally_count (acts_of_arrival net key o) ≤ 1
  arriving_count key None = omega arith
  arriving_count key (Some process) = coming_count key process
