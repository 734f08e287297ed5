-- Bounds of regions.
use Rattle.std.proofs.Common.{sym, true, List, slice_index, ◌≡◌, ◌<◌, ◌≤◌, ℕ, ◌+◌, ◌-◌, ◌*◌, ◌/◌, ◌^◌, ◌++◌, map, drop, length, get_or, subst, Option, Some, None, IfSome, option_map, refl, ap, ◌∙◌, cond, false, arith}
use Rattle.std.proofs.lemmas.List.{drop_more}
use Rattle.serde_json.specs.Data.{Data}
use Rattle.serde_json.specs.Find.{get}
use Rattle.fx_elements.specs.Axes.{axes, axis_count, axis_index, axis_width, tops}
use Rattle.fx_elements.specs.Values.{with_prefix}
use Rattle.fx_elements.proofs.EveryAxis.{along, index_at, top_is}
use Rattle.fx_elements.proofs.Widening.{range_ends}
use Rattle.fx_elements.specs.declared.axis.Axis.{Axis}
use Rattle.fx_elements.specs.declared.axis.Axis.TheVariants.{Source}
use Rattle.fx_elements.specs.declared.values.Range.{Range}
use Rattle.fx_boxes.specs.Boxes.{Bounds, IsRegion}
use Rattle.fx_walk.specs.Walk.{FoundFault, Refuses, Row, optional, row_faults}
use Rattle.fx_walk.proofs.Faults.{refuses_more}
use Rattle.fx_base.specs.declared.fault.Fault.{Fault}
use Rattle.fx_elements.specs.Elements.{axis_name}
use Rattle.fx_traffic.specs.Regions.{IsOn, region_of, values_faults, values_given}

-- the addresses of a prefix are on its axis
pub prefix_is_on : (axis : Axis) (o : Option (ℕ × ℕ))
    → ((p : ℕ × ℕ) → o ≡ Some p → (p.0 < 2 ^ axis_width axis) × (0 < p.1) × (p.1 ≤ axis_width axis))
    → IfSome (option_map (with_prefix (axis_width axis)) o) (IsOn axis)
prefix_is_on axis None h = tt
prefix_is_on axis (Some p) h =
    let facts = h p refl in
    let width : ℕ = axis_width axis in
    let end : p.0 / 2 ^ (width - p.1) * 2 ^ (width - p.1) + 2 ^ (width - p.1) ≤ 2 ^ width =
    range_ends width p.1 p.0 facts.2 facts.0 in
    let most : slice_index tops (axis_index axis) ≡ 2 ^ width - 1 = top_is axis in
    (omega arith, omega (arith, end, most))

-- ---- regions, one axis after another

abbrev pub row_on : Axis → Row
row_on axis = optional (axis_name axis) (values_faults axis)

abbrev pub given_on : Data → Axis → Range
given_on d axis = values_given axis (get (axis_name axis) d)

-- what an object gives on the axis with this place
abbrev pub given_at : Data → ℕ → Range
given_at d k = given_on d (get_or axes k Source)

-- these are its least value, and its greatest
abbrev pub IsLowAt : Data → ℕ → ℕ → Type 0
IsLowAt d k low = (low ≡ (given_at d k).low) × IsOn (get_or axes k Source) (given_at d k)

abbrev pub IsHighAt : Data → ℕ → ℕ → Type 0
IsHighAt d k high = high ≡ (given_at d k).high

-- the faults from one axis on are its own, and those from the next on
pub faults_here : (up : List ℕ) (d : Data) (i : ℕ) → i < axis_count → row_faults (map row_on (drop i axes)) up d
    ≡ (row_on (get_or axes i Source)).faults up d ++ row_faults (map row_on (drop (i + 1) axes)) up d
faults_here up d i lt = ap (λ (xs : List Axis). row_faults (map row_on xs) up d) (drop_more axes i Source lt)

-- the first fault of these, with others behind them
pub refuses_here : (e : Fault) (all here more : List FoundFault) → all ≡ here ++ more → Refuses e here → Refuses e all
refuses_here e all here more is h = subst (Refuses e) (sym is) (refuses_more e here more h)

-- values on each axis make a region
pub is_region : (d : Data) (low high : List ℕ) → ((k : ℕ) → k < axis_count → IsLowAt d k (get_or low k 0))
    → ((k : ℕ) → k < axis_count → IsHighAt d k (get_or high k 0)) → IsRegion (record { low = low; high = high })
is_region d low high lows highs k lt =
    let l = lows k lt in
    let h = highs k lt in
    let le = l.1.0 in
    let top = l.1.1 in
    (omega (arith, l.0, h, le), subst (λ n. get_or high k 0 ≤ get_or tops n 0) (index_at k lt) (omega (arith, h, top)))

pub region_is : (d : Data) (low high : List ℕ) → length low ≡ axis_count → length high ≡ axis_count
    → ((k : ℕ) → k < axis_count → IsLowAt d k (get_or low k 0))
    → ((k : ℕ) → k < axis_count → IsHighAt d k (get_or high k 0))
    → ◌≡◌ {A = Bounds} (record { low = low; high = high }) (region_of d)
region_is d low high low_len high_len lows highs =
    let l = along (λ axis. (given_on d axis).low) low low_len (λ k. λ lt. (lows k lt).0) in
    let h = along (λ axis. (given_on d axis).high) high high_len highs in
    cc (l, h)
