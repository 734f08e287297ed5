-- The values at their places are those that are read field by field.
use Rattle.std.proofs.Common.{◌≡◌, ℕ, ◌+◌, ◌<◌, ◌≤◌, Bool, true, false, not, cond, List, [], ◌∷◌, length, take, drop, map, get_or, refl, ap, sym, subst, ◌∙◌, arith, length-drop, le-ltb, Option, Some, None, IfSome, option_map, Ok, ◌==◌, ◌&&◌, ◌||◌}
use Rattle.std.specs.List.{find, list_any}
use Rattle.std.proofs.lemmas.List.{drop-drop}
use Rattle.std.proofs.lemmas.List.Sums.{sum_by-cons}
use Rattle.fx_elements.specs.declared.axis.Axis.{Axis}
use Rattle.fx_elements.specs.declared.element.Element.{Element}
use Rattle.fx_elements.specs.declared.element.Element.TheVariants as elements
use Rattle.fx_elements.specs.Axes.{is_address}
use Rattle.fx_wire.specs.Fields.{element_of}
use Rattle.fx_wire.specs.Values.{Value, variable_at, value_at, record_at, before_values, shortest_value, shortest_record}
use Rattle.fx_wire.specs.Values.{octets_at as octets_or_none}
use Rattle.fx_wire.specs.declared.field.FieldSpecifier.{FieldSpecifier}
use Rattle.fx_wire.proofs.RecordSteps.{here_and_on, none_left, record_at-first, record_at-end}
use Rattle.fx_session.specs.declared.places.ValuePlace.{ValuePlace}
use Rattle.fx_session.specs.declared.places.RecordPlaces.{RecordPlaces}
use Rattle.fx_session.specs.DataSets.{Taken, after_flow, after_values, flow_record, with_flow}
use Rattle.fx_session.specs.Flows.{Found, first_where, found_in, flow_in, is_value, is_prefix, is_prefix_length, is_octets, is_packets, number_in, part_on, prefix_part}
use Rattle.fx_session.specs.Places.{ArePlacesIn, ArePlacesOf, IsPlaceIn, found_at, have_fixed_lengths, is_any_prefix, octets_of_place, place_on, place_where, record_by}
use Rattle.fx_session.proofs.Keys.{key_known}

-- ---- the first field of an element

pub place_where-here : (is : Element → Bool) (fields : List FieldSpecifier) (i at : ℕ) (d : FieldSpecifier) → i
    < length fields → is (element_of (get_or fields i d)) ≡ true
    → place_where is at (drop i fields) ≡ Some (record { start = at; end = at + (get_or fields i d).field_length })
place_where-here is fields i at d lt h =
    ap (place_where is at) (here_and_on fields i d lt)
    ∙ ap (λ (t : Bool). cond t (Some (record { start = at; end = at + (get_or fields i d).field_length }))
    (place_where is (at + (get_or fields i d).field_length) (drop (i + 1) fields))) h

pub place_where-behind : (is : Element → Bool) (fields : List FieldSpecifier) (i at : ℕ) (d : FieldSpecifier) → i
    < length fields → is (element_of (get_or fields i d)) ≡ false
    → place_where is at (drop i fields) ≡ place_where is (at + (get_or fields i d).field_length) (drop (i + 1) fields)
place_where-behind is fields i at d lt h =
    ap (place_where is at) (here_and_on fields i d lt)
    ∙ ap (λ (t : Bool). cond t (Some (record { start = at; end = at + (get_or fields i d).field_length }))
    (place_where is (at + (get_or fields i d).field_length) (drop (i + 1) fields))) h

pub place_where-nowhere : (is : Element → Bool) (fields : List FieldSpecifier) (i at : ℕ) → length fields ≤ i
    → place_where is at (drop i fields) ≡ None
place_where-nowhere is fields i at h = ap (place_where is at) (none_left fields i h)

-- ---- fields of fixed lengths

both : (a b : Bool) → (a && b) ≡ true → (a ≡ true) × (b ≡ true)
both true b h = (refl, h)
both false b h = absurd cc

negated : (t : Bool) → not t ≡ true → t ≡ false
negated true h = absurd cc
negated false h = refl

fixed_first : (f : FieldSpecifier) (fs : List FieldSpecifier) → have_fixed_lengths (f ∷ fs) ≡ true
    → (f.field_length == 65535) ≡ false
fixed_first f fs h = negated (f.field_length == 65535)
    (both (not (f.field_length == 65535)) (have_fixed_lengths fs) h).0

fixed_others : (f : FieldSpecifier) (fs : List FieldSpecifier) → have_fixed_lengths (f ∷ fs) ≡ true
    → have_fixed_lengths fs ≡ true
fixed_others f fs h = (both (not (f.field_length == 65535)) (have_fixed_lengths fs) h).1

shortest-fixed : (f : FieldSpecifier) (fs : List FieldSpecifier) → have_fixed_lengths (f ∷ fs) ≡ true
    → shortest_record (f ∷ fs) ≡ f.field_length + shortest_record fs
shortest-fixed f fs h = sum_by-cons shortest_value f fs
    ∙ ap (λ (t : Bool). cond t 1 f.field_length + shortest_record fs) (fixed_first f fs h)

value_at-fixed : (f : FieldSpecifier) (fs : List FieldSpecifier) (at : ℕ) (all : List ℕ) → have_fixed_lengths (f ∷ fs)
    ≡ true → at + f.field_length ≤ length all
    → value_at f.field_length (drop at all) ≡ Some (take f.field_length (drop at all), drop (at + f.field_length) all)
value_at-fixed f fs at all h fits =
    let n = f.field_length in
    ap (λ (t : Bool). cond t (variable_at (drop at all)) (octets_or_none n (drop at all))) (fixed_first f fs h)
    ∙ ap (λ (t : Bool). cond t None (Some (take n (drop at all), drop n (drop at all))))
    (le-ltb (length (drop at all)) n (omega (arith, length-drop at all)))
    ∙ ap (λ (rest : List ℕ). Some (take n (drop at all), rest)) (drop-drop n at all)

-- the values of a record are the octets at the places of their fields
pub values_at : (fields : List FieldSpecifier) (at : ℕ) (all : List ℕ) → have_fixed_lengths fields ≡ true → at
    + shortest_record fields ≤ length all
    → (vs : List Value) × (record_at fields (drop at all) ≡ Some (vs, drop (at + shortest_record fields) all))
    × ((is : Element → Bool) → first_where is vs
    ≡ option_map (λ (p : ValuePlace). number_in (octets_of_place p all)) (place_where is at fields))
values_at [] at all h fits = (
  [],
  record_at-end (drop at all)
      ∙ ap (λ (n : ℕ). Some ([], drop n all)) (omega arith),
  λ is. refl,
)
values_at (f ∷ fs) at all h fits =
    let n = f.field_length in
    let long = shortest-fixed f fs h in
    let rest = values_at fs (at + n) all (fixed_others f fs h) (omega (arith, fits, long)) in
    let v : Value = record { field = f; content = take n (drop at all) } in (
      v ∷ rest.0,
      record_at-first f fs (drop at all) (take n (drop at all), drop (at + n) all)
          (value_at-fixed f fs at all h (omega (arith, fits, long)))
          ∙ ap (before_values (v ∷ [])) rest.1
          ∙ ap (λ (m : ℕ). Some (v ∷ rest.0, drop m all)) (omega (arith, long)),
      λ is. by is rest.0 (is (element_of f)) (rest.2 is),
    ) where
      by : (is : Element → Bool) (vs : List Value) (t : Bool) → first_where is vs
          ≡ option_map (λ (p : ValuePlace). number_in (octets_of_place p all)) (place_where is (at + f.field_length) fs)
          → option_map (λ (w : Value). number_in w.content)
          (cond t (Some (record { field = f; content = take f.field_length (drop at all) }))
          (find (λ (w : Value). is (element_of w.field)) vs))
          ≡ option_map (λ (p : ValuePlace). number_in (octets_of_place p all))
          (cond t (Some (record { start = at; end = at + f.field_length }))
          (place_where is (at + f.field_length) fs))
      by is vs true ih = ap (λ (m : ℕ). Some (number_in (take m (drop at all)))) (omega arith)
      by is vs false ih = ih

pub place_where-within : (is : Element → Bool) (fields : List FieldSpecifier) (at n : ℕ) → have_fixed_lengths fields
    ≡ true → at + shortest_record fields ≤ n → IfSome (place_where is at fields) (IsPlaceIn n)
place_where-within is [] at n h fits = tt
place_where-within is (f ∷ fs) at n h fits =
    let long = shortest-fixed f fs h in
    by (is (element_of f)) (omega (arith, fits, long))
    (place_where-within is fs (at + f.field_length) n (fixed_others f fs h) (omega (arith, fits, long))) where
      by : (t : Bool) → at + f.field_length ≤ n → IfSome (place_where is (at + f.field_length) fs) (IsPlaceIn n)
          → IfSome (cond t (Some (record { start = at; end = at + f.field_length }))
          (place_where is (at + f.field_length) fs)) (IsPlaceIn n)
      by true here behind = (omega arith, here)
      by false here behind = behind

-- ---- no prefix is read

none_of_all : (axis : Axis) (element : Element) → is_any_prefix element ≡ false → is_prefix axis element ≡ false
none_of_all axis (elements.Prefix own) h = absurd cc
none_of_all axis (elements.OnAxis own) h = refl
none_of_all axis (elements.PrefixLength own) h = refl
none_of_all axis elements.OctetDeltaCount h = refl
none_of_all axis elements.PacketDeltaCount h = refl
none_of_all axis elements.OctetTotalCount h = refl
none_of_all axis elements.PacketTotalCount h = refl
none_of_all axis elements.Other h = refl

neither : (a b : Bool) → (a || b) ≡ false → (a ≡ false) × (b ≡ false)
neither true b h = absurd cc
neither false b h = (refl, h)

place_where-no_prefix : (axis : Axis) (fields : List FieldSpecifier) (at : ℕ)
    → list_any is_any_prefix (map element_of fields) ≡ false → place_where (is_prefix axis) at fields ≡ None
place_where-no_prefix axis [] at h = refl
place_where-no_prefix axis (f ∷ fs) at h =
    let p = neither (is_any_prefix (element_of f)) (list_any is_any_prefix (map element_of fs)) h in
    ap (λ (t : Bool). cond t (Some (record { start = at; end = at + f.field_length }))
    (place_where (is_prefix axis) (at + f.field_length) fs)) (none_of_all axis (element_of f) p.0)
    ∙ place_where-no_prefix axis fs (at + f.field_length) p.1

-- ---- the flow record that is read at the places

pub places_within : (fields : List FieldSpecifier) (places : RecordPlaces) (n : ℕ) → ArePlacesOf fields places
    → shortest_record fields ≤ n → ArePlacesIn n places
places_within fields places n are fits = record {
  values = λ axis. subst (λ (p : Option ValuePlace). IfSome p (IsPlaceIn n)) (sym (are.values axis))
      (place_where-within (is_value axis) fields 0 n are.fixed (omega (arith, fits)));
  octets = subst (λ (p : Option ValuePlace). IfSome p (IsPlaceIn n)) are.octets
      (place_where-within is_octets fields 0 n are.fixed (omega (arith, fits)));
  packets = subst (λ (p : Option ValuePlace). IfSome p (IsPlaceIn n)) are.packets
      (place_where-within is_packets fields 0 n are.fixed (omega (arith, fits)));
}

-- what is found on an axis, where no prefix of it is read
part_at : (axis : Axis) (octets : List ℕ) (place : Option ValuePlace) (lengths : Option ℕ)
    → part_on axis (option_map (λ (p : ValuePlace). number_in (octets_of_place p octets)) place) None lengths
    ≡ Ok (found_at octets axis place)
part_at axis octets (Some place) lengths = refl
part_at axis octets None lengths = either (is_address axis) where
  either : (t : Bool) → cond t (prefix_part axis None lengths) (Ok None) ≡ Ok None
  either true = refl
  either false = refl

flow_in-places : (fields : List FieldSpecifier) (places : RecordPlaces) (octets : List ℕ) (vs : List Value)
    → ArePlacesOf fields places
    → ((is : Element → Bool) → first_where is vs
    ≡ option_map (λ (p : ValuePlace). number_in (octets_of_place p octets)) (place_where is 0 fields))
    → flow_in vs ≡ Ok (Some (record_by places octets))
unfolding flow_in
flow_in-places fields places octets vs are is =
    let number : Option ValuePlace → Option ℕ = option_map (λ (p : ValuePlace). number_in (octets_of_place p octets)) in
    let own : Axis → Found = λ axis. found_at octets axis (place_on places axis) in
    let found : (axis : Axis) → found_in vs axis ≡ Ok (own axis) = λ axis.
    cc (
      is (is_value axis) ∙ ap number (sym (are.values axis)),
      is (is_prefix axis)
          ∙ ap number (place_where-no_prefix axis fields 0 are.plain),
      part_at axis octets (place_on places axis)
          (first_where (is_prefix_length axis) vs),
    ) in
    let key = key_known (found_in vs) own found in
    cc (is is_octets ∙ ap number are.octets, is is_packets ∙ ap number are.packets, key, are.layout octets)

-- the record at the front of octets that are enough
pub flow_record-places : (fields : List FieldSpecifier) (places : RecordPlaces) (t : Taken) (octets : List ℕ)
    → ArePlacesOf fields places → shortest_record fields ≤ length octets
    → flow_record fields t octets ≡ Ok (
      with_flow t (Some (record_by places octets)),
      drop (shortest_record fields)
          octets,
    )
flow_record-places fields places t octets are fits =
    let read = values_at fields 0 octets are.fixed (omega (arith, fits)) in
    let all : 0 + shortest_record fields ≡ shortest_record fields = omega arith in
    ap (after_values t) (read.1 ∙ ap (λ (n : ℕ). Some (read.0, drop n octets)) all)
    ∙ ap (after_flow t (drop (shortest_record fields) octets))
    (flow_in-places fields places octets read.0 are read.2)
