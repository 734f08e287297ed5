-- The records that result from a step, each with the fate it must have, and the choices of the step.
use Rattle.std.specs.Prelude.{◌≡◌, ◌<◌, ◌==◌, ◌+◌, ◌++◌, length, ℕ, suc, List, [], ◌∷◌, map, Option, Some, None, if◌then◌else◌, slice_get}
use Rattle.fx_elements.specs.Axes.{Fields}
use Rattle.fx_layout.specs.Keys.{Layout, Key, Fits, key_of}
use Rattle.fx_machine.specs.Acts.{Choices, Act}
use Rattle.fx_machine.specs.Steps.{acts_of_leaving, acts_of_arrival, crossing_acts}
use Rattle.fx_tables.specs.Occurrences.{occurrences}
use Rattle.fx_tables.specs.declared.traffic.Crossing.{Crossing}
use Rattle.fx_tables.specs.Network.{Net, Exporter, AggregationEntry, Process, at_places, exporters_of, layout_of, takes}
use Rattle.fx_tables.specs.declared.observation.Occurrence.{Occurrence}
use Rattle.fx_leaf.specs.declared.verdict.Fate.{Fate}
use Rattle.fx_leaf.specs.declared.verdict.Fate.TheVariants.{Never}
use Rattle.fx_leaf.specs.Fates.{both}
use Rattle.fx_leaf.specs.Tables.{Numbering, number_of_layout}
use Rattle.fx_steps.specs.declared.costs.Costs.{Costs}
use Rattle.fx_steps.specs.declared.pending.Pending.{Pending}
use Rattle.fx_steps.specs.declared.pending.StepPlan.{StepPlan}
use Rattle.fx_steps.specs.declared.pending.Pending.TheVariants.{AtHolder, OnLink}
use Rattle.fx_steps.specs.Building.{Item, Held, Carried, Spreads}
use Rattle.fx_tables.specs.Runnable.{IsHolder}
use Rattle.fx_steps.specs.Ways.{acts, tally_fate}
use Rattle.fx_steps.specs.Costs.{cost_of}
use Rattle.fx_steps.specs.CostTables.{CostTable, destination_costs, send_costs, sent_costs, holder_costs, all_taken_costs, tally_costs, handled_costs, occurrence_costs}
use Rattle.fx_steps.specs.Spread.{SentRecord, shares, records_by_exporter, choices_by_exporter}

-- these records and these choices are appended to a plan
pub record AddsPlan (old new : StepPlan) (xs : List Pending) (cs : Choices) : Type 0 where
  pub pending : new.pending.items ≡ old.pending.items ++ xs
  pub choices : new.choices.items ≡ old.choices.items ++ cs

abbrev pub pending_on_links : ℕ → List SentRecord → List Pending
pending_on_links number xs = map (λ (x : SentRecord). OnLink x.link number x.fate) xs

-- ---- what exporting processes send for a record with the layout of this number

abbrev pub sent_pending : CostTable → Net → ℕ → List Exporter → Fate → List Pending
sent_pending table net number [] f = []
sent_pending table net number (e ∷ es) f =
    let p = shares (send_costs table net number e) (sent_costs table net number es) f in
    pending_on_links number (records_by_exporter table net number e p.0) ++ sent_pending table net number es p.1

abbrev pub sent_choices : CostTable → Net → ℕ → List Exporter → Fate → Choices
sent_choices table net number [] f = []
sent_choices table net number (e ∷ es) f =
    let p = shares (send_costs table net number e) (sent_costs table net number es) f in
    choices_by_exporter table net number e p.0 ++ sent_choices table net number es p.1

-- the records sent by the first exporting process, if there is one, given the costs of the others
abbrev pub first_pending : CostTable → Net → ℕ → Option Exporter → Costs → Fate → List Pending
first_pending table net number None others f = []
first_pending table net number (Some e) others f =
    pending_on_links number (records_by_exporter table net number e (shares (send_costs table net number e) others f).0)

abbrev pub first_choices : CostTable → Net → ℕ → Option Exporter → Costs → Fate → Choices
first_choices table net number None others f = []
first_choices table net number (Some e) others f =
    choices_by_exporter table net number e (shares (send_costs table net number e) others f).0

abbrev pub fate_left_by : CostTable → Net → ℕ → Option Exporter → Costs → Fate → Fate
fate_left_by table net number None others f = f
fate_left_by table net number (Some e) others f = (shares (send_costs table net number e) others f).1

-- ---- what aggregations add

abbrev pub all_taken_pending : CostTable → Net → Numbering → Key → List AggregationEntry → Fate → List Pending
all_taken_pending table net n key [] f = []
all_taken_pending table net n key (a ∷ as') f =
    let p = shares (holder_costs table net n a.holder) (all_taken_costs table net n key as') f in
    if takes net key a then AtHolder a.holder p.0
    ∷ all_taken_pending table net n key as' p.1 else all_taken_pending table net n key as' f

abbrev pub all_taken_choices : CostTable → Net → Numbering → Key → List AggregationEntry → Choices
all_taken_choices table net n key [] = []
all_taken_choices table net n key (a ∷ as') =
    if takes net key a then None ∷ all_taken_choices table net n key as' else all_taken_choices table net n key as'

-- ---- what a collecting process does with a record of this layout and its number

abbrev pub handled_pending : CostTable → Net → Numbering → Fields → ℕ → Layout → Option Process → Fate → List Pending
handled_pending table net n fields number layout None f = []
handled_pending table net n fields number layout (Some p) f =
    let q = shares (sent_costs table net number (at_places net.exporters p.exporters))
    (all_taken_costs table net n (key_of layout fields) p.aggregations) f in
    sent_pending table net number (at_places net.exporters p.exporters) q.0
    ++ all_taken_pending table net n (key_of layout fields) p.aggregations q.1

abbrev pub handled_choices : CostTable → Net → Numbering → Fields → ℕ → Layout → Option Process → Fate → Choices
handled_choices table net n fields number layout None f = []
handled_choices table net n fields number layout (Some p) f =
    let q = shares (sent_costs table net number (at_places net.exporters p.exporters))
    (all_taken_costs table net n (key_of layout fields) p.aggregations) f in
    sent_choices table net number (at_places net.exporters p.exporters) q.0
    ++ all_taken_choices table net n (key_of layout fields) p.aggregations

-- the fate that remains after the report's tally
abbrev pub fate_behind_tally : CostTable → Net → Numbering → Fields → ℕ → ℕ → Layout → Fate → Fate
fate_behind_tally table net n fields process number layout f =
    (shares (tally_costs net layout process)
    (handled_costs table net n fields number layout (slice_get net.processes process)) f).1

-- ---- what caches add for a packet

abbrev pub occurrence_pending : CostTable → Net → Numbering → List Occurrence → Fate → List Pending
occurrence_pending table net n [] f = []
occurrence_pending table net n (o ∷ os) f =
    let p = shares (holder_costs table net n o.holder) (occurrence_costs table net n os) f in
    AtHolder o.holder p.0 ∷ occurrence_pending table net n os p.1

abbrev pub occurrence_choices : List Occurrence → Choices
occurrence_choices [] = []
occurrence_choices (o ∷ os) = None ∷ occurrence_choices os

-- ---- the cost of pending records, their combined fate, and the records themselves

abbrev pub pending_cost : CostTable → Net → Numbering → Pending → ℕ
pending_cost table net n (AtHolder holder f) = cost_of (holder_costs table net n holder) f
pending_cost table net n (OnLink link number f) = cost_of (destination_costs table net number (Some link)) f

abbrev pub pending_fate : Pending → Fate
pending_fate (AtHolder holder f) = f
pending_fate (OnLink link number f) = f

abbrev pub total_cost : CostTable → Net → Numbering → List Pending → ℕ
total_cost table net n [] = 0
total_cost table net n (x ∷ xs) = pending_cost table net n x + total_cost table net n xs

abbrev pub total_fate : List Pending → Fate
total_fate [] = Never
total_fate (x ∷ xs) = both (pending_fate x) (total_fate xs)

abbrev pub layout_in : Option Layout → Layout
layout_in None = []
layout_in (Some layout) = layout

abbrev pub item_of : Net → Numbering → Fields → Pending → Item
item_of net n fields (AtHolder holder f) = Held holder (key_of (layout_of (slice_get net.holders holder)) fields)
item_of net n fields (OnLink link number f) = Carried link (key_of (layout_in (slice_get n.layouts number)) fields)

abbrev pub pending_items : Net → Numbering → Fields → List Pending → List Item
pending_items net n fields xs = map (item_of net n fields) xs

-- ---- the step of a record in transit

abbrev pub arrival_pending : CostTable → Net → Numbering → Fields → ℕ → Layout → Option ℕ → Fate → List Pending
arrival_pending table net n fields number layout None f = []
arrival_pending table net n fields number layout (Some process) f =
    handled_pending table net n fields number layout (slice_get net.processes process)
    (fate_behind_tally table net n fields process number layout f)

abbrev pub arrival_choices : CostTable → Net → Numbering → Fields → ℕ → Layout → Option ℕ → Fate → Choices
arrival_choices table net n fields number layout None f = []
arrival_choices table net n fields number layout (Some process) f =
    handled_choices table net n fields number layout (slice_get net.processes process)
    (fate_behind_tally table net n fields process number layout f)

abbrev pub arrival_keys : Net → Fields → Layout → Option ℕ → List Key
arrival_keys net fields layout None = []
arrival_keys net fields layout (Some process) = if process == net.report then key_of layout fields ∷ [] else []

-- the records that result from the step, the choices of the step, and the keys that are tallied
abbrev pub step_pending : CostTable → Net → Numbering → Fields → Pending → List Pending
step_pending table net n fields (AtHolder holder f) =
    sent_pending table net (number_of_layout n holder) (exporters_of net (slice_get net.holders holder)) f
step_pending table net n fields (OnLink link number f) =
    arrival_pending table net n fields number (layout_in (slice_get n.layouts number)) (slice_get net.links link) f

abbrev pub step_choices : CostTable → Net → Numbering → Fields → Pending → Choices
step_choices table net n fields (AtHolder holder f) =
    sent_choices table net (number_of_layout n holder) (exporters_of net (slice_get net.holders holder)) f
step_choices table net n fields (OnLink link number f) =
    arrival_choices table net n fields number (layout_in (slice_get n.layouts number)) (slice_get net.links link) f

abbrev pub step_keys : Net → Numbering → Fields → Pending → List Key
step_keys net n fields (AtHolder holder f) = []
step_keys net n fields (OnLink link number f) =
    arrival_keys net fields (layout_in (slice_get n.layouts number)) (slice_get net.links link)

-- the acts of the record's step
abbrev pub step_acts : Net → Numbering → Fields → Pending → List Act
step_acts net n fields (AtHolder holder f) =
    acts_of_leaving net holder (key_of (layout_of (slice_get net.holders holder)) fields)
step_acts net n fields (OnLink link number f) =
    acts_of_arrival net (key_of (layout_in (slice_get n.layouts number)) fields) (slice_get net.links link)

abbrev pub keys_fate : Net → List Key → Fate
keys_fate net [] = Never
keys_fate net (k ∷ ks) = both (tally_fate net k) (keys_fate net ks)

-- the record's place exists, and so does its layout
abbrev pub IsThere : Net → Numbering → Pending → Type 0
IsThere net n (AtHolder holder f) = IsHolder net holder
IsThere net n (OnLink link number f) = (link < length net.links)
    × ((layout : Layout) × (slice_get n.layouts number ≡ Some layout) × Fits layout)

-- the record can make this step: the resulting records cost one step less, and with the tallied keys have the same fate
pub record Steps (table : CostTable) (net : Net) (n : Numbering) (fields : Fields) (x : Pending) : Type 0 where
  pub spreads : Spreads net (acts (step_acts net n fields x)) (step_choices table net n fields x)
      (pending_items net n fields (step_pending table net n fields x)) (step_keys net n fields x)
  pub cost : suc (total_cost table net n (step_pending table net n fields x)) ≡ pending_cost table net n x
  pub fate : both (keys_fate net (step_keys net n fields x)) (total_fate (step_pending table net n fields x))
      ≡ pending_fate x

-- the packet can make this crossing with these choices
pub record Crosses (table : CostTable) (net : Net) (n : Numbering) (fields : Fields) (c : Crossing) (f : Fate) : Type 0
  where
    pub spreads : Spreads net (acts (crossing_acts net fields (Some c))) (occurrence_choices (occurrences net c fields))
        (pending_items net n fields (occurrence_pending table net n (occurrences net c fields) f)) []
    pub cost : total_cost table net n (occurrence_pending table net n (occurrences net c fields) f)
        ≡ cost_of (occurrence_costs table net n (occurrences net c fields)) f
    pub fate : total_fate (occurrence_pending table net n (occurrences net c fields) f) ≡ f
