-- What the caches that meter a packet and the aggregations that take a record are to hold are the acts of the step.
use Rattle.std.proofs.Common.{◌≡◌, ℕ, true, false, cond, List, [], ◌∷◌, ◌++◌, map, filter, Some, refl, sym, ap, ap₂, ◌∙◌, slice_get, ◌==◌}
use Rattle.fx_elements.specs.Axes.{Fields}
use Rattle.fx_layout.specs.Keys.{Key, project}
use Rattle.fx_tables.specs.declared.holding.Holding.{Holding}
use Rattle.fx_tables.specs.declared.observation.Occurrence.{Occurrence}
use Rattle.fx_tables.specs.Network.{Net, AggregationEntry, Process, layout_of, takes}
use Rattle.fx_tables.specs.Holdings.{met_holdings}
use Rattle.fx_tables.specs.Takers.{intakes}
use Rattle.fx_machine.specs.Acts.{Act, Tally}
use Rattle.fx_machine.specs.Steps.{meet, take_in, acts_of, acts_of_arrival}
use Rattle.fx_machine.specs.Holds.{hold_act}
use Rattle.fx_machine.specs.Handling.{sends, handling_acts}

-- the acts of these holders are those of the occurrences
pub met_acts : (net : Net) (f : Fields) (os : List Occurrence) → map hold_act (met_holdings net.holders f os)
    ≡ map (meet net f) os
met_acts net f [] = refl
met_acts net f (o ∷ os) = ap (λ (xs : List Act). meet net f o ∷ xs) (met_acts net f os)

-- and those of the aggregations that take the key
pub taken_acts : (net : Net) (key : Key) (xs : List AggregationEntry) → map hold_act (intakes net.holders key xs)
    ≡ map (take_in net key) (filter (takes net key) xs)
taken_acts net key [] = refl
taken_acts net key (a ∷ xs) =
    let rest = taken_acts net key xs in
    let own : Holding = record { holder = a.holder; key = project key (layout_of (slice_get net.holders a.holder)) } in
    elim (takes net key a) as (λ b. map hold_act (cond b (own ∷ []) [] ++ intakes net.holders key xs)
    ≡ map (take_in net key) (cond b (a ∷ filter (takes net key) xs) (filter (takes net key) xs))) [
      | true ↦ ap (λ (ys : List Act). take_in net key a ∷ ys) rest
      | false ↦ rest
    ]

-- what becomes of a record at a collecting process
pub handling_is : (net : Net) (key : Key) (link place : ℕ) (process : Process) (places : List ℕ) (hs : List Holding)
    → Some place ≡ slice_get net.links link → Some process ≡ slice_get net.processes place → places ≡ process.exporters
    → hs ≡ intakes net.holders key process.aggregations → acts_of_arrival net key (slice_get net.links link)
    ≡ handling_acts net key (place == net.report) places hs
handling_is net key link place process places hs at there exps taken =
    ap (acts_of_arrival net key) (sym at) ∙ ap (λ o. cond (place == net.report) (Tally key ∷ []) []
    ++ acts_of net key o) (sym there) ∙ ap₂ (λ (ns : List ℕ) (as' : List Act). cond (place == net.report)
    (Tally key ∷ []) [] ++ (sends net key ns ++ as')) (sym exps)
    (sym (ap (map hold_act) taken ∙ taken_acts net key process.aggregations))
