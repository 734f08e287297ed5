-- A table that is filled in order tells of all collecting processes.
use Rattle.std.proofs.Common.{◌≡◌, ◌≢◌, ◌⊎◌, inl, inr, ℕ, zero, suc, ◌+◌, ◌<◌, ◌≤◌, Bool, true, false, cond, ◌==◌, List, [], ◌∷◌, ◌++◌, length, All, Option, Some, None, IfSome, refl, sym, ap, ap₂, ◌∙◌, subst, arith, slice_get, slice_set, eqb-true, le_of_suc-le-suc, length-set}
use Rattle.std.proofs.lemmas.Bool.{cases_lt, eqb-false}
use Rattle.std.proofs.lemmas.Option.{slice_get_past}
use Rattle.std.specs.List.{AllByRecursion}
use Rattle.std.specs.Prelude.{Contains}
use Rattle.fx_elements.specs.Axes.{Fields}
use Rattle.fx_layout.specs.Keys.{Layout, Key, key_of}
use Rattle.fx_machine.specs.Acts.{Tally}
use Rattle.fx_tables.specs.Network.{Net, Exporter, AggregationEntry, Process, at_places, before, exporters_of, named_by}
use Rattle.fx_tables.specs.Orders.{Descends}
use Rattle.fx_tables.specs.Ranks.{RisesTo, Rises, AllRise, ProcessRises, IsRanked, IsNetwork}
use Rattle.fx_machine.specs.Steps.{acts_of, coming_to}
use Rattle.fx_leaf.specs.Tables.{Numbering, Numbers, Tables, AreTables}
use Rattle.fx_leaf.proofs.FateLaws.{Every}
use Rattle.fx_leaf.proofs.Ranks.{every_of_all}
use Rattle.fx_leaf.proofs.RowsGrow.{set_elsewhere, set_here}
use Rattle.fx_steps.specs.declared.costs.Costs.{Costs}
use Rattle.fx_steps.specs.Costs.{Tells, costs_of_never}
use Rattle.fx_steps.specs.CostTables.{CostTable, or_never, cost_in, cost_entry, cost_entry_from, cost_row, cost_fill}
use Rattle.fx_tables.specs.Runnable.{IsHolder}
use Rattle.fx_steps.specs.Ways.{acts}
use Rattle.fx_steps.proofs.WholeNetworks.{IsWhole, HasLinks, HasHolders}
use Rattle.fx_steps.proofs.HowWaysBegin.{Of}
use Rattle.fx_steps.proofs.EntriesTell.{HasCostsAt, GoodTo, GoodBy, GoodIn, no_acts_tell, entry_tells}

-- ---- lists

pub both_on : {A : Type 0} (P R S : A → Type 0) (xs : List A) → ((x : A) → P x → R x → S x) → Every P xs
    → AllByRecursion R xs → Every S xs
both_on P R S [] f h k = tt
both_on P R S (x ∷ xs) f h k = (f x h.0 k.0, both_on P R S xs f h.1 k.1)

pub all_at : {A : Type 0} (P : A → Type 0) (xs : List A) (k : ℕ) (x : A) → AllByRecursion P xs → slice_get xs k ≡ Some x
    → P x
all_at P [] k x all h = absurd (cc)
all_at P (y ∷ ys) zero x all h = let same : y ≡ x = cc in subst P same all.0
all_at P (y ∷ ys) (suc k) x all h = all_at P ys k x all.1 h

one_before : {A : Type 0} (P : A → Type 0) (o : Option A) (rest : List A) → ((x : A) → o ≡ Some x → P x)
    → AllByRecursion P rest → AllByRecursion P (before o rest)
one_before P None rest f h = h
one_before P (Some x) rest f h = (f x refl, h)

pub all_at_places : {A : Type 0} (P : A → Type 0) (xs : List A) (places : List ℕ) → AllByRecursion P xs
    → AllByRecursion P (at_places xs places)
all_at_places P xs [] all = tt
all_at_places P xs (place ∷ places) all =
    one_before P (slice_get xs place) (at_places xs places) (λ x e. all_at P xs place x all e)
    (all_at_places P xs places all)

-- ---- rows

row_at : (table : CostTable) (net : Net) (n : Numbering) (fields : Fields) (process first : ℕ) (layouts : List Layout)
    (k : ℕ) (layout : Layout) → slice_get layouts k ≡ Some layout
    → slice_get (cost_row table net n fields process first layouts) k
    ≡ Some (cost_entry_from table net n fields process (first + k) layout)
row_at table net n fields process first [] k layout h = absurd (cc)
row_at table net n fields process first (l ∷ ls) zero layout h =
    let same : l ≡ layout = cc in
    let e : first ≡ first + 0 = omega arith in
    ap₂ (λ (i : ℕ) (x : Layout). Some (cost_entry_from table net n fields process i x)) e same
row_at table net n fields process first (l ∷ ls) (suc k) layout h =
    let e : suc first + k ≡ first + suc k = omega arith in
    row_at table net n fields process (suc first) ls k layout h
    ∙ ap (λ i. Some (cost_entry_from table net n fields process i layout)) e

module _ (net : Net) (n : Numbering) (fields : Fields) (network : IsNetwork net) (numbers : Numbers net n)
    (whole : IsWhole net) (reports : net.report < length net.processes) where
  abbrev pub HasCosts : CostTable → ℕ → Type 0
  HasCosts table process = HasCostsAt net n fields network numbers table process

  abbrev ranked : IsRanked net
  ranked = network.ranked

  -- ---- destinations are good where the table tells of all processes of higher rank

  module _ (table : CostTable) (from : ℕ) (later : (q : ℕ) → ranked.rank from < ranked.rank q → HasCosts table q) where
    good_to : (d : Option ℕ) → Rises ranked.rank net from d → IfSome d (λ link. link < length net.links)
        → GoodTo net n fields network numbers table d
    good_to None rises lt = tt
    good_to (Some link) rises lt = (lt, λ q e. later q (subst (RisesTo ranked.rank from) e rises))

    good_by : (e : Exporter) → All (Rises ranked.rank net from) e.destinations → HasLinks net e
        → GoodBy net n fields network numbers table e
    good_by e rises links =
        both_on (Rises ranked.rank net from) (λ d. IfSome d (λ link. link < length net.links))
        (GoodTo net n fields network numbers table) e.destinations good_to
        (every_of_all (Rises ranked.rank net from) e.destinations rises) links

    good_all : (places : List ℕ) → AllRise ranked.rank net from (at_places net.exporters places)
        → Every (GoodBy net n fields network numbers table) (at_places net.exporters places)
    good_all places rises =
        both_on (λ e. All (Rises ranked.rank net from) e.destinations) (HasLinks net)
        (GoodBy net n fields network numbers table) (at_places net.exporters places) good_by
        (every_of_all (λ e. All (Rises ranked.rank net from) e.destinations) (at_places net.exporters places) rises)
        (all_at_places (HasLinks net) net.exporters places whole.links)

    good_in : (a : AggregationEntry) → AllRise ranked.rank net from (exporters_of net (slice_get net.holders a.holder))
        → IsHolder net a.holder → GoodIn net n fields network numbers table a.holder
    good_in a rises is = (is, good_all (named_by (slice_get net.holders a.holder)) rises)

    good_process : (p : Process) → slice_get net.processes from ≡ Some p
        → Every (GoodBy net n fields network numbers table) (at_places net.exporters p.exporters)
        × Every (λ (a : AggregationEntry). GoodIn net n fields network numbers table a.holder) p.aggregations
    good_process p is =
        let rises = subst (ProcessRises ranked.rank net from) is (ranked.rises from) in
        let P : AggregationEntry → Type 0 = λ a. AllRise ranked.rank net from
        (exporters_of net (slice_get net.holders a.holder)) in (
          good_all p.exporters rises.0,
          both_on P (λ (a : AggregationEntry). IsHolder net a.holder)
              (λ (a : AggregationEntry). GoodIn net n fields network numbers table a.holder) p.aggregations good_in
              (every_of_all P p.aggregations rises.1)
              (all_at (HasHolders net) net.processes from p whole.aggregations is),
        )

  -- ---- the table, row by row

  other_process : (q : ℕ) → length net.processes ≤ q → (q == net.report) ≡ false
  other_process q le = apart (q == net.report) refl where
    apart : (t : Bool) → (q == net.report) ≡ t → t ≡ false
    apart true e = let same : q ≡ net.report = eqb-true _ _ e in absurd (omega (arith, le, same, reports))
    apart false e = refl

  -- a process that isn't there does nothing
  pub not_there : (table : CostTable) (q : ℕ) → length table ≡ length net.processes → length net.processes ≤ q
      → HasCosts table q
  not_there table q size le number layout is fits =
      let none : slice_get table q ≡ None = slice_get_past table q (omega (arith, size, le)) in
      let key : Key = key_of layout fields in
      subst (λ o. Tells (cost_in o number) (Of net
      (acts ((cond (q == net.report) (Tally key ∷ []) []) ++ acts_of net key (slice_get net.processes q)))))
      (sym none) (subst (λ b. Tells costs_of_never
      (Of net (acts ((cond b (Tally key ∷ []) []) ++ acts_of net key (slice_get net.processes q)))))
      (sym (other_process q le)) (subst (λ o. Tells costs_of_never (Of net (acts (acts_of net key o))))
      (sym (slice_get_past net.processes q le)) (no_acts_tell net n fields network numbers table)))

  abbrev filled : CostTable → ℕ → CostTable
  filled table process = slice_set table process (cost_row table net n fields process 0 n.layouts)

  new_row : (table : CostTable) (process : ℕ) → length table ≡ length net.processes → process < length net.processes
      → ((q : ℕ) → ranked.rank process < ranked.rank q → HasCosts table q) → HasCosts (filled table process) process
  new_row table process size lt later number layout is fits =
      let row = cost_row table net n fields process 0 n.layouts in
      let here : slice_get (filled table process) process ≡ Some row =
      set_here table process row (omega (arith, size, lt)) in
      let at = row_at table net n fields process 0 n.layouts number layout is in
      let first : 0 + number ≡ number = omega arith in
      let e : cost_entry (filled table process) process number
      ≡ cost_entry_from table net n fields process number layout = ap (λ o. cost_in o number) here ∙ ap or_never at
      ∙ ap (λ i. cost_entry_from table net n fields process i layout) first in
      subst (λ (c : Costs). Tells c (Of net (acts (coming_to net (key_of layout fields) process)))) (sym e)
      (entry_tells net n fields network numbers table number layout is fits process
      (good_process table process later))

  old_row : (table : CostTable) (process q : ℕ) → process ≢ q → HasCosts table q → HasCosts (filled table process) q
  old_row table process q e fate_costs number layout is fits =
      subst (λ o. Tells (cost_in o number) (Of net (acts (coming_to net (key_of layout fields) q))))
      (sym (set_elsewhere table process q (cost_row table net n fields process 0 n.layouts) e))
      (fate_costs number layout is fits)

  any_row : (table : CostTable) (process q : ℕ) → length table ≡ length net.processes → process < length net.processes
      → ((r : ℕ) → ranked.rank process < ranked.rank r → HasCosts table r) → (q ≢ process → HasCosts table q)
      → HasCosts (filled table process) q
  any_row table process q size lt later old = by (process == q) refl where
    by : (t : Bool) → (process == q) ≡ t → HasCosts (filled table process) q
    by true e = let same : process ≡ q = eqb-true _ _ e in
        subst (HasCosts (filled table process)) same (new_row table process size lt later)
    by false e = let differs = eqb-false process q e in
        old_row table process q differs (old (λ same. differs (sym same)))

  later_reported : (done : List ℕ) (table : CostTable) (process : ℕ) → length table ≡ length net.processes
      → ((q : ℕ) → Contains done q → HasCosts table q)
      → ((q : ℕ) → q < length net.processes → ranked.rank process < ranked.rank q → Contains done q) → (q : ℕ)
      → ranked.rank process < ranked.rank q → HasCosts table q
  later_reported done table process size fate_costs behind q up =
      elim (cases_lt q (length net.processes))
      [ inl lt ↦ fate_costs q (behind q lt up) | inr le ↦ not_there table q size le ]

  in_done : (process : ℕ) (done : List ℕ) (q : ℕ) → Contains (process ∷ done) q → q ≢ process → Contains done q
  in_done process done q (zero, lt, e) differs = absurd (differs (sym e))
  in_done process done q (suc k, lt, e) differs = (k, le_of_suc-le-suc lt, e)

  all_have_costs : (order done : List ℕ) (table : CostTable) → length table ≡ length net.processes
      → Descends net ranked.rank done order → ((q : ℕ) → Contains done q → HasCosts table q) → (q : ℕ)
      → (Contains done q) ⊎ (Contains order q) → HasCosts (cost_fill net n fields order table) q
  all_have_costs [] done table size falls fate_costs q (inl at) = fate_costs q at
  all_have_costs [] done table size falls fate_costs q (inr at) = absurd (let lt = at.1 in omega (arith, lt))
  all_have_costs (process ∷ order) done table size falls fate_costs q at =
      all_have_costs order (process ∷ done) (filled table process)
      (length-set table process (cost_row table net n fields process 0 n.layouts) ∙ size) falls.2
      (λ r. λ in'. any_row table process r size falls.0 (later_reported done table process size fate_costs falls.1)
      (λ differs. fate_costs r (in_done process done r in' differs))) q (placed at)
    where
      placed : (Contains done q) ⊎ (Contains (process ∷ order) q) → (Contains (process ∷ done) q) ⊎ (Contains order q)
      placed (inl (k, lt, e)) = inl (suc k, omega (arith, lt), e)
      placed (inr (zero, lt, e)) = inl (zero, omega arith, e)
      placed (inr (suc k, lt, e)) = inr (k, le_of_suc-le-suc lt, e)

  fill_length : (order : List ℕ) (table : CostTable) → length (cost_fill net n fields order table) ≡ length table
  fill_length [] table = refl
  fill_length (process ∷ order) table = fill_length order (filled table process)
      ∙ length-set table process (cost_row table net n fields process 0 n.layouts)

-- whatever the table held
pub table_tells : (t : Tables) (are : AreTables t) → IsWhole t.net → (fields : Fields) (table : CostTable)
    → length table ≡ length t.net.processes → (process : ℕ)
    → HasCostsAt t.net t.numbering fields are.network are.numbers (cost_fill t.net t.numbering fields t.order table)
    process
table_tells t are whole fields table size process =
    elim (cases_lt process (length t.net.processes)) [
      | inl lt ↦ all_have_costs t.net t.numbering fields are.network are.numbers whole are.reports t.order [] table size
          are.falls (λ q none. absurd (let lt = none.1 in omega (arith, lt))) process (inr (are.whole process lt))
      | inr le ↦ not_there t.net t.numbering fields are.network are.numbers whole are.reports
          (cost_fill t.net t.numbering fields t.order table) process
          (fill_length t.net t.numbering fields are.network are.numbers whole are.reports t.order table ∙ size) le
    ]
