-- The key of what is noted on each axis.
use Rattle.std.proofs.Common.{◌≡◌, ◌≢◌, ℕ, ◌+◌, ◌%◌, ◌^◌, ◌<◌, ◌≤◌, Bool, true, cond, List, [], ◌∷◌, ◌++◌, map, take, length, get_or, refl, ap, sym, subst, ◌∙◌, arith, eq-eqb, Some, None, inl, inr, Result, Ok, Err}
use Rattle.std.proofs.Math.ListN.{set}
use Rattle.std.proofs.lemmas.Bool.{cases_lt}
use Rattle.std.proofs.lemmas.Nat.{pow_pos}
use Rattle.std.specs.List.{flat_map}
use Rattle.std.proofs.lemmas.Grind.{flat_map-append, get_or-set_at}
use Rattle.std.proofs.lemmas.List.{take_more, append-nil, get_or-set_other}
use Rattle.fx_elements.specs.declared.axis.Axis.{Axis}
use Rattle.fx_elements.specs.declared.axis.Axis.TheVariants.{Source}
use Rattle.fx_elements.specs.Axes.{axes, axis_count, axis_index, axis_width, tops}
use Rattle.fx_elements.proofs.EveryAxis.{along, axis_is, each_on, index_at, index_below, on_some, on_no_axis, top_is}
use Rattle.fx_boxes.specs.Boxes.{IsFields}
use Rattle.fx_layout.specs.Keys.{Layout, Key, key_of}
use Rattle.fx_wire.specs.Values.{Value}
use Rattle.fx_session.specs.declared.field_numbers.FieldNumbers.{FieldNumbers}
use Rattle.fx_session.specs.Flows.{Found, found_in, is_refused, key_by, found_or_none, layout_of, fields_of, flow_in, part_of, value_of}
use Rattle.fx_session.specs.Parts.{AllStand, IsGathered, Stands, bits_of, layout_by}
use Rattle.fx_session.specs.Values.{Notes, noted_part}
use Rattle.fx_session.proofs.Layouts.{same_parts, layout_by-is, bits_stand}
use Rattle.fx_session.specs.declared.stream_fault.StreamFault.{StreamFault}
use Rattle.fx_session.specs.declared.stream_fault.StreamFault.TheVariants as faults

pub parts_more : (f : Axis → Layout) (i : ℕ) → i < axis_count → flat_map f (take (i + 1) axes)
    ≡ flat_map f (take i axes) ++ f (get_or axes i Source)
parts_more f i lt =
    ap (flat_map f) (take_more axes i Source lt) ∙ flat_map-append f (take i axes) (get_or axes i Source ∷ [])
    ∙ ap (λ (l : Layout). flat_map f (take i axes) ++ l) (append-nil (f (get_or axes i Source)))

-- ---- what is known along the axes

values_are : (own : Axis → Found) (values : List ℕ) → length values ≡ axis_count
    → ((axis : Axis) → get_or values (axis_index axis) 0 ≡ value_of axis (own axis)) → values ≡ fields_of own
values_are own values len is = along (λ axis. value_of axis (own axis)) values len
    (λ k lt. ap (λ (n : ℕ). get_or values n 0) (sym (index_at k lt)) ∙ is (get_or axes k Source))

pub value_fits : (axis : Axis) (f : Found) → value_of axis f ≤ get_or tops (axis_index axis) 0
value_fits axis None = omega arith
value_fits axis (Some p) =
    let pos : 0 < 2 ^ axis_width axis = pow_pos (axis_width axis) in
    omega (arith, pos, top_is axis)

pub values_fit : (part : Axis → Result Found StreamFault) (bits values : List ℕ) → length values ≡ axis_count
    → ((axis : Axis) → IsGathered bits values axis (part axis)) → IsFields values
values_fit part bits values len reported =
    subst IsFields (sym (values_are (λ axis. found_or_none (part axis)) values len (λ axis. (reported axis).value)))
    (each_on (λ axis. value_of axis (found_or_none (part axis)))
    (λ axis. value_fits axis (found_or_none (part axis))))

pub all_stand : (part : Axis → Result Found StreamFault) (bits values : List ℕ)
    → ((axis : Axis) → IsGathered bits values axis (part axis)) → AllStand bits
all_stand part bits values reported = λ axis. bits_stand axis (found_or_none (part axis))
    (get_or bits (axis_index axis) 0) (reported axis).stands (reported axis).leading

-- what is known of one axis more
pub reported_more : (part : Axis → Result Found StreamFault) (bits values : List ℕ) (own : Axis) (f : Found)
    (b v i place : ℕ) → length bits ≡ axis_count → length values ≡ axis_count
    → place ≡ axis_index own → i ≡ axis_index own → part own ≡ Ok f → Stands own f → b ≡ bits_of f → v ≡ value_of own f
    → ((axis : Axis) → axis_index axis < i → IsGathered bits values axis (part axis))
    → (axis : Axis) → axis_index axis < i + 1 → IsGathered (set bits place b) (set values place v) axis (part axis)
reported_more part bits values own f b v i place lb lv at turn is stands bits_are value_is before axis lt =
    elim (cases_lt (axis_index axis) i) [
      | inl less ↦
          let old = before axis less in
          let other : axis_index axis ≢ place = λ e. omega (arith, less, at, turn, e) in record {
            read = old.read;
            stands = old.stands;
            leading = get_or-set_other bits place (axis_index axis) b 0 other ∙ old.leading;
            value = get_or-set_other values place (axis_index axis) v 0 other ∙ old.value;
          }
      | inr more ↦
          let below = index_below own in
          let here : axis_index axis ≡ place = omega (arith, lt, more, at, turn) in
          let same : own ≡ axis = axis_is own axis (eq-eqb (axis_index own) (axis_index axis) (omega (arith, here, at)))
          in
          subst (λ (a : Axis). IsGathered (set bits place b) (set values place v) a (part a)) same (record {
            read = is ∙ ap (λ (r : Result Found StreamFault). Ok (found_or_none r)) (sym is);
            stands = subst (λ (r : Result Found StreamFault). Stands own (found_or_none r)) (sym is) stands;
            leading = get_or-set_at bits place (axis_index own) b 0 (sym at) (omega (arith, lb, at, below)) ∙ bits_are
                ∙ ap (λ (r : Result Found StreamFault). bits_of (found_or_none r)) (sym is);
            value = get_or-set_at values place (axis_index own) v 0 (sym at) (omega (arith, lv, at, below)) ∙ value_is
                ∙ ap (λ (r : Result Found StreamFault). value_of own (found_or_none r)) (sym is);
          })
    ]

-- ---- flow records

same_values : (f g : Axis → ℕ) (xs : List Axis) → ((axis : Axis) → f axis ≡ g axis) → map f xs ≡ map g xs
same_values f g [] h = refl
same_values f g (x ∷ xs) h = cc (h x, same_values f g xs h)

same_part : (seen : FieldNumbers) (vs : List Value) → Notes seen vs → (axis : Axis) → noted_part seen axis
    ≡ found_in vs axis
same_part seen vs h axis = cc (h.numbers axis, h.prefixes axis, h.lengths axis)

key_refused : (found : Axis → Result Found StreamFault) (axis : Axis) → is_refused (found axis) ≡ true → key_by found
    ≡ Err faults.PrefixLength
key_refused found axis h =
    ap (λ (t : Bool). cond t (Err faults.PrefixLength)
    (Ok (key_of (layout_of (λ axis. found_or_none (found axis))) (fields_of (λ axis. found_or_none (found axis))))))
    (on_some (λ axis. is_refused (found axis)) axis h)

pub key_known : (found : Axis → Result Found StreamFault) (own : Axis → Found)
    → ((axis : Axis) → found axis ≡ Ok (own axis)) → key_by found ≡ Ok (key_of (layout_of own) (fields_of own))
key_known found own h =
    ap (λ (t : Bool). cond t (Err faults.PrefixLength)
    (Ok (key_of (layout_of (λ axis. found_or_none (found axis))) (fields_of (λ axis. found_or_none (found axis))))))
    (on_no_axis (λ axis. is_refused (found axis)) (λ axis. ap is_refused (h axis)))
    ∙ ap (λ (l : Layout). Ok (key_of l (fields_of (λ axis. found_or_none (found axis)))))
    (same_parts (λ axis. part_of axis (found_or_none (found axis))) (λ axis. part_of axis (own axis)) axes
    (λ axis. ap (λ (r : Result Found StreamFault). part_of axis (found_or_none r)) (h axis)))
    ∙ ap (λ (f : List ℕ). Ok (key_of (layout_of own) f))
    (same_values (λ axis. value_of axis (found_or_none (found axis))) (λ axis. value_of axis (own axis)) axes
    (λ axis. ap (λ (r : Result Found StreamFault). value_of axis (found_or_none r)) (h axis)))

pub flow_refused : (seen : FieldNumbers) (octets packets : ℕ) (fault : StreamFault) → seen.octets ≡ Some octets
    → seen.packets ≡ Some packets → (fault ≡ faults.PrefixLength) × (axis : Axis)
    × (is_refused (noted_part seen axis) ≡ true) → (vs : List Value) → Notes seen vs → Err fault ≡ flow_in vs
unfolding flow_in
flow_refused seen octets packets fault o p refusal vs h =
    let key = key_refused (found_in vs) refusal.1 (ap is_refused (sym (same_part seen vs h refusal.1)) ∙ refusal.2) in
    cc (o, p, h.octets, h.packets, key, refusal.0)

pub flow_known : (seen : FieldNumbers) (octets packets : ℕ) (bits values : List ℕ) (key : Key) → seen.octets
    ≡ Some octets → seen.packets ≡ Some packets → length values ≡ axis_count
    → ((axis : Axis) → IsGathered bits values axis (noted_part seen axis)) → key ≡ key_of (layout_by bits) values
    → (vs : List Value) → Notes seen vs
    → Ok (Some (record { key = key; counts = record { packets = packets % 2 ^ 64; octets = octets % 2 ^ 64 } }))
    ≡ flow_in vs
unfolding flow_in
flow_known seen octets packets bits values key o p len reported is vs h =
    let own : Axis → Found = λ axis. found_or_none (noted_part seen axis) in
    let k = key_known (found_in vs) own (λ axis. sym (same_part seen vs h axis) ∙ (reported axis).read) in
    let l = layout_by-is own bits (λ axis. (reported axis).stands) (λ axis. (reported axis).leading) in
    let f = values_are own values len (λ axis. (reported axis).value) in
    cc (o, p, h.octets, h.packets, k, is, l, f)
