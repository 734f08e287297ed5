-- The matches that documents mean have no more bits than their axes, and values of no more bits than those.
use Rattle.std.proofs.Common.{◌≡◌, ℕ, ◌+◌, ◌-◌, ◌*◌, ◌/◌, ◌^◌, ◌<◌, ◌≤◌, List, [], ◌∷◌, ◌++◌, length, map, Option, Some, None, refl, ap, ◌∙◌, subst, arith, option_map, codes}
use Rattle.std.specs.List.{AllByRecursion}
use Rattle.std.specs.Option.{unwrap_or}
use Rattle.std.proofs.Math.Nat.{div-lt_iff_lt-mul, div-mul-le_self}
use Rattle.std.proofs.lemmas.Nat.{pow_pos}
use Rattle.std.proofs.Math.Pow.{pow-add}
use Rattle.serde_json.specs.Data.{Data}
use Rattle.fx_elements.specs.declared.axis.Axis.{Axis}
use Rattle.fx_elements.specs.declared.axis.Axis.TheVariants.{Source}
use Rattle.fx_elements.specs.declared.element.Element.{Element}
use Rattle.fx_elements.specs.declared.element.Element.TheVariants.{OnAxis, OctetDeltaCount, PacketDeltaCount, OctetTotalCount, PacketTotalCount, Prefix, PrefixLength, Other}
use Rattle.fx_elements.specs.Axes.{axis_width}
use Rattle.fx_elements.specs.Values.{single, value_on, prefix_on, with_prefix}
use Rattle.fx_elements.proofs.AxisTexts.{value_fits, prefix_fits}
use Rattle.fx_elements.proofs.EveryAxis.{top_below}
use Rattle.fx_layout.specs.Keys.{leading_bits}
use Rattle.fx_config.specs.declared.aggregation.Aggregation.{Aggregation}
use Rattle.fx_config.specs.declared.collecting_process.CollectingProcess.{CollectingProcess}
use Rattle.fx_config.specs.declared.property_match.PropertyMatch.{PropertyMatch}
use Rattle.fx_config.specs.Aggregations.{aggregation_of}
use Rattle.fx_config.specs.CollectingProcesses.{collecting_process_of}
use Rattle.fx_walk.specs.Walk.{member_of}
use Rattle.fx_walk.specs.Lists.{items_of}
use Rattle.fx_config.specs.Devices.{device_of}
use Rattle.fx_config.specs.PropertyMatches.{property_match_of, property_meant}
use Rattle.fx_topology.specs.declared.network_device.NetworkDevice.{NetworkDevice}
use Rattle.fx_plan.specs.Labels.{Label, exporting_labels}
use Rattle.fx_tables.specs.Matches.{AllHaveEntries, AreEntries, HasEntries, IsEntry}
use Rattle.fx_topology.specs.NetworkDevices.{network_device_of}
use Rattle.fx_topology.specs.Networks.{devices_of, network_of}
use Rattle.fx_plan.specs.Tables.{aggregations_from, cache_holders, held_by, match_entry, net_of, processes_from, processes_in}

-- ---- what is read

-- no more bits than the axis, and a value on it
abbrev pub IsMatch : PropertyMatch → Type 0
IsMatch m = (m.range.bits ≤ axis_width m.axis) × (m.range.low < 2 ^ axis_width m.axis)

none_meant : PropertyMatch
none_meant = record { axis = Source; range = record { low = 0; high = 0; bits = 0 } }

on_axis : (axis : Axis) (text : List ℕ) (o : Option ℕ) → value_on axis text ≡ o
    → IsMatch (unwrap_or (option_map (λ range. record { axis = axis; range = range })
    (option_map (single (axis_width axis)) o))
    (record { axis = Source; range = record { low = 0; high = 0; bits = 0 } }))
on_axis axis text None e = (omega arith, omega arith)
on_axis axis text (Some v) e =
    let top = top_below axis in
    let low = value_fits axis text v e in
    (omega arith, omega arith)

of_prefix : (axis : Axis) (o : Option (ℕ × ℕ))
    → ((p : ℕ × ℕ) → o ≡ Some p → (p.0 < 2 ^ axis_width axis) × (p.1 ≤ axis_width axis))
    → IsMatch (unwrap_or (option_map (λ range. record { axis = axis; range = range })
    (option_map (with_prefix (axis_width axis)) o))
    (record { axis = Source; range = record { low = 0; high = 0; bits = 0 } }))
of_prefix axis None fits = (omega arith, omega arith)
of_prefix axis (Some p) fits =
    let h = fits p refl in
    let below : p.0 < 2 ^ axis_width axis = h.0 in
    let low : p.0 / 2 ^ (axis_width axis - p.1) * 2 ^ (axis_width axis - p.1) ≤ p.0 =
    div-mul-le_self p.0 (2 ^ (axis_width axis - p.1)) in
    (h.1, omega (arith, low, below))

pub meant_is_match : (element : Element) (text : List ℕ) → IsMatch (property_meant element text)
meant_is_match (OnAxis axis) text = on_axis axis text (value_on axis text) refl
meant_is_match (Prefix axis) text = of_prefix axis (prefix_on axis text)
    (λ p is. let h = prefix_fits axis text p is in (h.0, h.2))
meant_is_match OctetDeltaCount text = (omega arith, omega arith)
meant_is_match PacketDeltaCount text = (omega arith, omega arith)
meant_is_match OctetTotalCount text = (omega arith, omega arith)
meant_is_match PacketTotalCount text = (omega arith, omega arith)
meant_is_match (PrefixLength axis) text = (omega arith, omega arith)
meant_is_match Other text = (omega arith, omega arith)

leading_below : (width bits value : ℕ) → bits ≤ width → value < 2 ^ width → leading_bits width bits value < 2 ^ bits
leading_below width bits value le lt =
    let whole : 2 ^ width ≡ 2 ^ bits * 2 ^ (width - bits) =
    ap (λ n. 2 ^ n) (let e : width ≡ bits + (width - bits) = omega arith in e) ∙ pow-add 2 bits (width - bits) in
    (div-lt_iff_lt-mul {k = 2 ^ (width - bits)} {x = value} {y = 2 ^ bits} (pow_pos (width - bits))).1
    (subst (λ n. value < n) whole lt)

entry_is : (m : PropertyMatch) → IsMatch m → IsEntry (match_entry m)
entry_is m h = (h.0, leading_below (axis_width m.axis) m.range.bits m.range.low h.0 h.1)

-- ---- tables of what is read

mapped : {X Y : Type 0} (P : Y → Type 0) (f : X → Y) → ((x : X) → P (f x)) → (xs : List X) → AllByRecursion P (map f xs)
mapped P f each [] = tt
mapped P f each (x ∷ xs) = (each x, mapped P f each xs)

abbrev pub HasMatches : Aggregation → Type 0
HasMatches a = AllByRecursion IsMatch a.matches

abbrev pub AllHaveMatches : CollectingProcess → Type 0
AllHaveMatches p = AllByRecursion HasMatches p.aggregations

abbrev pub DeviceMatches : NetworkDevice → Type 0
DeviceMatches x = AllByRecursion AllHaveMatches x.config.collecting_processes

entries_of : (ms : List PropertyMatch) → AllByRecursion IsMatch ms → AllByRecursion IsEntry (map match_entry ms)
entries_of [] h = tt
entries_of (m ∷ ms) h = (entry_is m h.0, entries_of ms h.1)

aggregations_have : (holder : ℕ) (aggs : List Aggregation) → AllByRecursion HasMatches aggs
    → AllByRecursion HasEntries (aggregations_from holder aggs)
aggregations_have holder [] h = tt
aggregations_have holder (a ∷ rest) h = (entries_of a.matches h.0, aggregations_have (holder + 1) rest h.1)

processes_have : (exporting : List Label) (device : List ℕ) (holder : ℕ) (ps : List CollectingProcess)
    → AllByRecursion AllHaveMatches ps → AllByRecursion AllHaveEntries (processes_from exporting device holder ps)
processes_have exporting device holder [] h = tt
processes_have exporting device holder (p ∷ ps) h = (
  aggregations_have holder p.aggregations h.0,
  processes_have exporting device (holder + length p.aggregations) ps
      h.1,
)

both_have : {X : Type 0} (P : X → Type 0) (xs ys : List X) → AllByRecursion P xs → AllByRecursion P ys
    → AllByRecursion P (xs ++ ys)
both_have P [] ys h k = k
both_have P (x ∷ xs) ys h k = (h.0, both_have P xs ys h.1 k)

devices_have : (exporting : List Label) (holder : ℕ) (xs : List NetworkDevice) → AllByRecursion DeviceMatches xs
    → AllByRecursion AllHaveEntries (processes_in exporting holder xs)
devices_have exporting holder [] h = tt
devices_have exporting holder (x ∷ xs) h =
    both_have AllHaveEntries (processes_from exporting x.name holder x.config.collecting_processes)
    (processes_in exporting (holder + length (held_by exporting x.name x.config.collecting_processes)) xs)
    (processes_have exporting x.name holder x.config.collecting_processes h.0)
    (devices_have exporting (holder + length (held_by exporting x.name x.config.collecting_processes)) xs h.1)

device_matches : (d : Data) → DeviceMatches (network_device_of d)
unfolding device_of
device_matches d = mapped AllHaveMatches collecting_process_of
    (λ p. mapped HasMatches aggregation_of (λ a. mapped IsMatch property_match_of (λ m. meant_is_match _ _) _) _) _

pub network_entries : (d : Data) → AreEntries (net_of (network_of d))
unfolding net_of
network_entries d =
    let exporting = exporting_labels (devices_of d) in
    devices_have exporting (length (cache_holders exporting (devices_of d))) (devices_of d)
    (mapped DeviceMatches network_device_of device_matches (items_of (member_of (codes "devices") d)))
