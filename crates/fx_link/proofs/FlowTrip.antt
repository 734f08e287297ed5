-- The flow record of a data record that is written.
use Rattle.std.proofs.Common.{◌≡◌, ℕ, ◌-◌, ◌/◌, ◌%◌, ◌^◌, ◌≤◌, ◌<◌, Bool, true, false, ◌==◌, cond, ltb, le-ltb, List, [], ◌∷◌, ◌++◌, map, refl, ap, sym, ◌∙◌, subst, arith, Option, Some, None, Result, Ok, Err}
use Rattle.std.specs.List.{flat_map}
use Rattle.std.proofs.Math.Nat.{mod-eq_of_lt, mul-div_cancel}
use Rattle.std.proofs.lemmas.Nat.{pow_pos}
use Rattle.std.proofs.lemmas.Bool.Decides.{nat_tests}
use Rattle.fx_base.specs.declared.counts.Counts.{Counts}
use Rattle.fx_elements.specs.declared.axis.Axis.{Axis}
use Rattle.fx_elements.specs.Axes.{Fields, field, axes, axis_width, is_address}
use Rattle.fx_elements.proofs.EveryAxis.{on_no_axis, value_at}
use Rattle.fx_layout.specs.declared.layout.Part.{Part}
use Rattle.fx_layout.specs.Keys.{Layout, Key, HasBits, IsLayout, leading_bits, key_of, can_stand}
use Rattle.fx_tables.specs.declared.record.Record.{Record}
use Rattle.fx_wire.specs.Values.{Value}
use Rattle.fx_session.specs.Flows.{Found, prefix_part, part_on, found_in, part_of, value_of, layout_of, fields_of, key_along, found_or_none, is_refused, key_by, with_counts, flow_by, first_where, is_prefix, is_prefix_length, is_packets, flow_in}
use Rattle.fx_link.specs.Records.{is_whole, prefix_of}
use Rattle.fx_link.proofs.RecordTrip.{key_values, counts_values}
use Rattle.fx_link.proofs.OnAxes.{Held, held, part_in, Stands, held_stands, Gives, parts_are, values_are}
use Rattle.fx_link.proofs.KeyTrip.{eq-is, stands_some, stands_few, stands_address, prefix_fits, whole_in, prefix_in, length_in, NotedOn, axis_noted, octets_noted, packets_noted}
use Rattle.fx_session.specs.declared.stream_fault.StreamFault.{StreamFault}
use Rattle.fx_session.specs.declared.stream_fault.StreamFault.TheVariants as faults

-- ---- what is found on an axis

abbrev own : Axis → Held → Found
own axis None = None
own axis (Some q) = Some (cond (is_whole q.0) (record { bits = axis_width axis; value = q.1 })
    (record { bits = q.0.bits; value = prefix_of q.0 q.1 }))

nothing_found : (axis : Axis) → part_on axis None None None ≡ Ok None
nothing_found axis = by (is_address axis) where
  by : (t : Bool) → cond t (prefix_part axis None None) (Ok None) ≡ Ok None
  by true = refl
  by false = refl

prefix_found : (axis : Axis) (value bits : ℕ) → is_address axis ≡ true → 1 ≤ bits → bits ≤ axis_width axis
    → part_on axis None (Some value) (Some bits) ≡ Ok (Some (record { bits = bits; value = value }))
prefix_found axis value bits a some few =
    let zero_no : (bits == 0) ≡ false = grind (arith, nat_tests) in
    let large_no : ltb (axis_width axis) bits ≡ false = le-ltb (axis_width axis) bits few in
    ap (λ (t : Bool). cond t (prefix_part axis (Some value) (Some bits)) (Ok None)) a
    ∙ ap (λ (t : Bool). cond t (Ok None) (cond (ltb (axis_width axis) bits) (Err faults.PrefixLength)
    (Ok (Some (record { bits = bits; value = value }))))) zero_no
    ∙ ap (λ (t : Bool). cond t (Err faults.PrefixLength) (Ok (Some (record { bits = bits; value = value })))) large_no

held_found : (axis : Axis) (o : Held) → Stands axis o → part_on axis (whole_in o) (prefix_in o) (length_in o)
    ≡ Ok (own axis o)
held_found axis None s = nothing_found axis
held_found axis (Some q) s = by (is_whole q.0) refl where
  by : (t : Bool) → is_whole q.0 ≡ t → part_on axis (cond t (Some q.1) None) (cond t None (Some (prefix_of q.0 q.1)))
      (cond t None (Some q.0.bits))
      ≡ Ok (Some (cond t (record { bits = axis_width axis; value = q.1 })
      (record { bits = q.0.bits; value = prefix_of q.0 q.1 })))
  by true w = refl
  by false w =
      let few : q.0.bits ≤ axis_width axis = subst (λ (x : Axis). q.0.bits ≤ axis_width x) s.0 (stands_few q.0 s.1) in
      prefix_found axis (prefix_of q.0 q.1) q.0.bits
      (subst (λ (x : Axis). is_address x ≡ true) s.0 (stands_address q.0 s.1 w)) (stands_some q.0 s.1) few

axis_found : (axis : Axis) (layout : Layout) (values : List ℕ) (all : List Value) → NotedOn axis layout values all
    → Stands axis (held layout values axis) → found_in all axis ≡ Ok (own axis (held layout values axis))
axis_found axis layout values all n s =
    ap (λ (o : Option ℕ). part_on axis o (first_where (is_prefix axis) all) (first_where (is_prefix_length axis) all))
    n.whole
    ∙ ap (λ (o : Option ℕ). part_on axis (whole_in (held layout values axis)) o
    (first_where (is_prefix_length axis) all)) n.prefix
    ∙ ap (λ (o : Option ℕ). part_on axis (whole_in (held layout values axis)) (prefix_in (held layout values axis)) o)
    n.bits
    ∙ held_found axis (held layout values axis) s

-- ---- it is the part, and leads with its value

part_found : (axis : Axis) (o : Held) → Stands axis o → part_of axis (own axis o) ≡ part_in o
part_found axis None s = refl
part_found axis (Some q) s =
    bits (is_whole q.0) refl ∙ ap (λ (x : Axis). let l : Layout = record { axis = x; bits = q.0.bits } ∷ [] in l)
    (sym s.0) where
      bits : (t : Bool) → is_whole q.0 ≡ t → part_of axis
          (Some (cond t (record { bits = axis_width axis; value = q.1 })
          (record { bits = q.0.bits; value = prefix_of q.0 q.1 }))) ≡ record { axis = axis; bits = q.0.bits } ∷ []
      bits true w = ap (λ (n : ℕ). let l : Layout = record { axis = axis; bits = n } ∷ [] in l)
          (ap axis_width (sym s.0) ∙ sym (eq-is w refl))
      bits false w = refl

whole_leads : (w v : ℕ) → v < 2 ^ w → leading_bits w w (v % 2 ^ w) ≡ v
whole_leads w v h =
    let none : w - w ≡ 0 = omega arith in
    ap (λ (n : ℕ). v % 2 ^ w / 2 ^ n) none ∙ ap (λ (n : ℕ). n / 1) (mod-eq_of_lt h) ∙ omega arith

prefix_leads : (part : Part) (v : ℕ) → can_stand part ≡ true → v < 2 ^ part.bits
    → leading_bits (axis_width part.axis) part.bits (prefix_of part v % 2 ^ axis_width part.axis) ≡ v
prefix_leads part v c h =
    ap (λ (n : ℕ). n / 2 ^ (axis_width part.axis - part.bits)) (mod-eq_of_lt (prefix_fits part v c h))
    ∙ mul-div_cancel v (pow_pos (axis_width part.axis - part.bits))

value_led : (axis : Axis) (o : Held) (fields : Fields) → Stands axis o → field fields axis ≡ value_of axis (own axis o)
    → Gives (λ (part : Part). leading_bits (axis_width part.axis) part.bits (field fields part.axis)) o
value_led axis None fields s e = tt
value_led axis (Some q) fields s e =
    ap (λ (x : Axis). leading_bits (axis_width q.0.axis) q.0.bits (field fields x)) s.0
    ∙ ap (leading_bits (axis_width q.0.axis) q.0.bits) (e ∙ ap (λ (x : Axis). value_of x (own x (Some q))) (sym s.0))
    ∙ by (is_whole q.0) refl where
      by : (t : Bool) → is_whole q.0 ≡ t
          → leading_bits (axis_width q.0.axis) q.0.bits
          (value_of q.0.axis (Some (cond t (record { bits = axis_width q.0.axis; value = q.1 })
          (record { bits = q.0.bits; value = prefix_of q.0 q.1 })))) ≡ q.1
      by true w =
          let is : q.0.bits ≡ axis_width q.0.axis = eq-is w refl in
          ap (λ (n : ℕ). leading_bits (axis_width q.0.axis) n (q.1 % 2 ^ axis_width q.0.axis)) is
          ∙ whole_leads (axis_width q.0.axis) q.1 (subst (λ (n : ℕ). q.1 < 2 ^ n) is s.2)
      by false w = prefix_leads q.0 q.1 s.1 s.2

-- ---- the key

same_along : {A : Type 0} (f g : Axis → List A) (xs : List Axis) → ((axis : Axis) → f axis ≡ g axis) → flat_map f xs
    ≡ flat_map g xs
same_along f g [] h = refl
same_along f g (x ∷ xs) h = cc (h x, same_along f g xs h)

same_each : (f g : Axis → ℕ) (xs : List Axis) → ((axis : Axis) → f axis ≡ g axis) → map f xs ≡ map g xs
same_each f g [] h = refl
same_each f g (x ∷ xs) h = cc (h x, same_each f g xs h)

-- what is refused on no axis makes the key of what is known
key_found : (found : Axis → Result Found StreamFault) (own : Axis → Found)
    → ((axis : Axis) → found axis ≡ Ok (own axis)) → key_by found ≡ Ok (key_of (layout_of own) (fields_of own))
key_found found own h =
    ap (λ (t : Bool). cond t (Err faults.PrefixLength) (Ok (key_along (λ axis. found_or_none (found axis)))))
    (on_no_axis (λ axis. is_refused (found axis)) (λ axis. ap is_refused (h axis)))
    ∙ ap (λ (l : Layout). let r : Result Key StreamFault =
    Ok (key_of l (fields_of (λ axis. found_or_none (found axis)))) in r)
    (same_along (λ axis. part_of axis (found_or_none (found axis))) (λ axis. part_of axis (own axis)) axes
    (λ axis. ap (λ (r : Result Found StreamFault). part_of axis (found_or_none r)) (h axis)))
    ∙ ap (λ (f : Fields). let r : Result Key StreamFault = Ok (key_of (layout_of own) f) in r)
    (same_each (λ axis. value_of axis (found_or_none (found axis))) (λ axis. value_of axis (own axis)) axes
    (λ axis. ap (λ (r : Result Found StreamFault). value_of axis (found_or_none r)) (h axis)))

key_back : (layout : Layout) (values : List ℕ) → IsLayout layout → HasBits layout values
    → key_of (layout_of (λ axis. own axis (held layout values axis)))
    (fields_of (λ axis. own axis (held layout values axis))) ≡ record { layout = layout; values = values }
key_back layout values is h =
    let stands : (axis : Axis) → Stands axis (held layout values axis) =
    λ axis. held_stands layout values axis is.stands h in
    let fields : Fields = fields_of (λ axis. own axis (held layout values axis)) in
    let parts : layout_of (λ axis. own axis (held layout values axis)) ≡ layout =
    parts_are layout values (λ axis. part_of axis (own axis (held layout values axis))) is.ascends h
    (λ axis. part_found axis (held layout values axis) (stands axis)) in
    let led : map (λ (part : Part). leading_bits (axis_width part.axis) part.bits (field fields part.axis)) layout
    ≡ values =
    values_are layout values (λ (part : Part). leading_bits (axis_width part.axis) part.bits (field fields part.axis))
    is.ascends h
    (λ axis. value_led axis (held layout values axis) fields (stands axis)
    (value_at (λ axis. value_of axis (own axis (held layout values axis))) axis)) in
    ap (λ (l : Layout). key_of l fields) parts
    ∙ ap (λ (vs : List ℕ). let k : Key = record { layout = layout; values = vs } in k) led

-- ---- the record

with_counts-back : (counts : Counts) (key : Key) → counts.octets < 2 ^ 64 → counts.packets < 2 ^ 64
    → with_counts counts.octets counts.packets (Ok key) ≡ Ok (Some (record { key = key; counts = counts }))
with_counts-back counts key octets packets =
    ap (λ (n : ℕ). let r : Result (Option Record) StreamFault =
    Ok (Some (record { key = key; counts = record { packets = n; octets = counts.octets % 2 ^ 64 } })) in r)
    (mod-eq_of_lt packets)
    ∙ ap (λ (n : ℕ). let r : Result (Option Record) StreamFault =
    Ok (Some (record { key = key; counts = record { packets = counts.packets; octets = n } })) in r)
    (mod-eq_of_lt octets)

pub flow_back : (layout : Layout) (values : List ℕ) (counts : Counts) → IsLayout layout → HasBits layout values
    → counts.packets < 2 ^ 64 → counts.octets < 2 ^ 64
    → flow_in (key_values layout values ++ counts_values counts)
    ≡ Ok (Some (record { key = record { layout = layout; values = values }; counts = counts }))
unfolding flow_in
flow_back layout values counts is h packets octets =
    let all : List Value = key_values layout values ++ counts_values counts in
    let found : (axis : Axis) → found_in all axis ≡ Ok (own axis (held layout values axis)) =
    λ axis. axis_found axis layout values all
    (axis_noted axis layout values counts is.stands is.ascends h octets packets)
    (held_stands layout values axis is.stands h) in
    ap (λ (o : Option ℕ). flow_by o (first_where is_packets all) (key_by (found_in all)))
    (octets_noted layout values counts is.stands h octets packets)
    ∙ ap (λ (o : Option ℕ). flow_by (Some counts.octets) o (key_by (found_in all)))
    (packets_noted layout values counts is.stands h octets packets)
    ∙ ap (with_counts counts.octets counts.packets)
    (key_found (found_in all) (λ axis. own axis (held layout values axis)) found
    ∙ ap (λ (k : Key). let r : Result Key StreamFault = Ok k in r) (key_back layout values is h))
    ∙ with_counts-back counts (record { layout = layout; values = values }) octets packets
