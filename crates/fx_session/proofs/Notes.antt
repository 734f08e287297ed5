-- What is noted of values, one after another.
use Rattle.std.proofs.Common.{◌≡◌, ◌≢◌, ℕ, ◌+◌, ◌<◌, ◌≤◌, Bool, true, false, cond, eq-eqb, List, [], ◌∷◌, ◌++◌, length, drop, map, get_or, refl, ap, sym, ◌∙◌, arith, append_assoc, Option, Some, None, option_map}
use Rattle.std.proofs.Math.ListN.{set}
use Rattle.std.specs.List.{find}
use Rattle.std.specs.Option.{option_or}
use Rattle.fx_elements.specs.Axes.{axis_count, axis_index, same_axis}
use Rattle.fx_elements.specs.declared.axis.Axis.{Axis}
use Rattle.fx_elements.specs.declared.element.Element.{Element}
use Rattle.fx_elements.specs.declared.element.Element.TheVariants.{OnAxis, OctetDeltaCount, PacketDeltaCount, Prefix, PrefixLength}
use Rattle.fx_elements.proofs.EveryAxis.{axis_is, index_below}
use Rattle.std.proofs.lemmas.List.{get_or-set_other, get_or-map}
use Rattle.std.proofs.lemmas.Grind.{get_or-set_at}
use Rattle.fx_wire.specs.Fields.{element_of}
use Rattle.fx_wire.specs.Values.{Value, value_at, record_at, before_values}
use Rattle.fx_wire.specs.declared.field.FieldSpecifier.{FieldSpecifier}
use Rattle.fx_wire.proofs.RecordSteps.{here_and_on, none_left, record_at-first, record_at-cut, record_at-end}
use Rattle.fx_session.specs.declared.field_numbers.Numbers.{Numbers}
use Rattle.fx_session.specs.declared.field_numbers.FieldNumbers.{FieldNumbers}
use Rattle.fx_session.specs.Flows.{first_where, is_value, is_prefix, is_prefix_length, is_octets, is_packets, number_in}
use Rattle.fx_session.specs.Values.{Notes, number_on, first_on}

-- the first number is the first so far, or else the new one if its element is meant
first-push : (is : Element → Bool) (vs : List Value) (v : Value)
    → first_where is (vs ++ v ∷ []) ≡ option_or (first_where is vs)
    (cond (is (element_of v.field)) (Some (number_in v.content)) None)
first-push is [] v = alone (is (element_of v.field)) where
  alone : (t : Bool) → option_map (λ (w : Value). number_in w.content) (cond t (Some v) None)
      ≡ cond t (Some (number_in v.content)) None
  alone true = refl
  alone false = refl
first-push is (w ∷ ws) v = by (is (element_of w.field)) (first-push is ws v) where
  by : (t : Bool) → first_where is (ws ++ v ∷ [])
      ≡ option_or (first_where is ws) (cond (is (element_of v.field)) (Some (number_in v.content)) None)
      → option_map (λ (u : Value). number_in u.content)
      (cond t (Some w) (find (λ (u : Value). is (element_of u.field)) (ws ++ v ∷ [])))
      ≡ option_or (option_map (λ (u : Value). number_in u.content)
      (cond t (Some w) (find (λ (u : Value). is (element_of u.field)) ws)))
      (cond (is (element_of v.field)) (Some (number_in v.content)) None)
  by true ih = refl
  by false ih = ih

or_none : (o : Option ℕ) → o ≡ option_or o None
or_none (Some x) = refl
or_none None = refl

-- a value of another element changes nothing
pub kept : (is : Element → Bool) (vs : List Value) (v : Value) (o : Option ℕ) → is (element_of v.field) ≡ false → o
    ≡ first_where is vs → o ≡ first_where is (vs ++ v ∷ [])
kept is vs v o other e = e ∙ or_none (first_where is vs)
    ∙ ap (λ (t : Bool). option_or (first_where is vs) (cond t (Some (number_in v.content)) None)) (sym other)
    ∙ sym (first-push is vs v)

-- a value of the element is noted where none is
pub taken : (is : Element → Bool) (vs : List Value) (v : Value) (o : Option ℕ) → is (element_of v.field) ≡ true → o
    ≡ first_where is vs → option_or o (Some (number_in v.content)) ≡ first_where is (vs ++ v ∷ [])
taken is vs v o own e =
    ap (λ (p : Option ℕ). option_or p (Some (number_in v.content))) e
    ∙ ap (λ (t : Bool). option_or (first_where is vs) (cond t (Some (number_in v.content)) None)) (sym own)
    ∙ sym (first-push is vs v)

-- the same along the axes: the element has values of one of them
taken_on : (is : Axis → Element → Bool) (vs : List Value) (v : Value) (own : Axis) (old new : Numbers)
    → ((axis : Axis) → is axis (element_of v.field) ≡ same_axis own axis)
    → ((axis : Axis) → number_on new axis ≡ first_on old own (number_in v.content) axis)
    → ((axis : Axis) → number_on old axis ≡ first_where (is axis) vs)
    → (axis : Axis) → number_on new axis ≡ first_where (is axis) (vs ++ v ∷ [])
taken_on is vs v own old new meant noted known axis = noted axis ∙ by (same_axis own axis) refl where
  by : (t : Bool) → same_axis own axis ≡ t
      → cond t (option_or (number_on old axis) (Some (number_in v.content))) (number_on old axis)
      ≡ first_where (is axis) (vs ++ v ∷ [])
  by true e = taken (is axis) vs v (number_on old axis) (meant axis ∙ e) (known axis)
  by false e = kept (is axis) vs v (number_on old axis) (meant axis ∙ e) (known axis)

-- ---- numbers along the axes

-- a number comes to its own place and to no other
pub noted_here : (old : Numbers) (own : Axis) (place number n : ℕ) → place ≡ axis_index own → number ≡ n
    → length old.noted ≡ axis_count → length old.values ≡ axis_count → get_or old.noted place false ≡ false
    → (axis : Axis) → number_on (record { noted = set old.noted place true; values = set old.values place number }) axis
    ≡ first_on old own n axis
noted_here old own place number n at is ln lv none axis = by (same_axis own axis) refl where
  by : (t : Bool) → same_axis own axis ≡ t
      → number_on (record { noted = set old.noted place true; values = set old.values place number }) axis
      ≡ cond t (option_or (number_on old axis) (Some n)) (number_on old axis)
  by true e =
      let same : axis_index axis ≡ place = ap axis_index (sym (axis_is own axis e)) ∙ sym at in
      let below = index_below axis in
      let is_noted : get_or (set old.noted place true) (axis_index axis) false ≡ true =
      get_or-set_at old.noted place (axis_index axis) true false same (omega (arith, ln, below, same)) in
      let value : get_or (set old.values place number) (axis_index axis) 0 ≡ n =
      get_or-set_at old.values place (axis_index axis) number 0 same (omega (arith, lv, below, same)) ∙ is in
      let before : get_or old.noted (axis_index axis) false ≡ false = ap (λ (i : ℕ). get_or old.noted i false) same
      ∙ none in
      rw (is_noted, value, before)
  by false e =
      let other : axis_index axis ≢ place = λ q. let yes = eq-eqb (axis_index own) (axis_index axis) (sym (q ∙ at)) in
      cc (yes, e) in
      rw (
        get_or-set_other old.noted place (axis_index axis) true false other,
        get_or-set_other old.values place
            (axis_index axis) number 0 other,
      )

-- a number that is noted stays
pub noted_before : (old : Numbers) (own : Axis) (place n : ℕ) → place ≡ axis_index own → get_or old.noted place false
    ≡ true → (axis : Axis) → number_on old axis ≡ first_on old own n axis
noted_before old own place n at is axis = by (same_axis own axis) refl where
  by : (t : Bool) → same_axis own axis ≡ t → number_on old axis
      ≡ cond t (option_or (number_on old axis) (Some n)) (number_on old axis)
  by true e =
      let before : get_or old.noted (axis_index axis) false ≡ true =
      ap (λ (i : ℕ). get_or old.noted i false) (ap axis_index (sym (axis_is own axis e)) ∙ sym at) ∙ is in
      rw before
  by false e = refl

-- ---- a value of each kind of element

pub note_value : (seen : FieldNumbers) (vs : List Value) (v : Value) (own : Axis) (new : Numbers) → element_of v.field
    ≡ OnAxis own
    → ((axis : Axis) → number_on new axis ≡ first_on seen.numbers own (number_in v.content) axis) → Notes seen vs
    → Notes (record seen { numbers = new }) (vs ++ v ∷ [])
note_value seen vs v own new e is h = record {
  numbers = taken_on is_value vs v own seen.numbers new (λ a. ap (is_value a) e) is h.numbers;
  prefixes = λ axis. kept (is_prefix axis) vs v _ (ap (is_prefix axis) e) (h.prefixes axis);
  lengths = λ axis. kept (is_prefix_length axis) vs v _ (ap (is_prefix_length axis) e) (h.lengths axis);
  octets = kept is_octets vs v _ (ap is_octets e) h.octets;
  packets = kept is_packets vs v _ (ap is_packets e) h.packets;
}

pub note_prefix : (seen : FieldNumbers) (vs : List Value) (v : Value) (own : Axis) (new : Numbers) → element_of v.field
    ≡ Prefix own
    → ((axis : Axis) → number_on new axis ≡ first_on seen.prefixes own (number_in v.content) axis) → Notes seen vs
    → Notes (record seen { prefixes = new }) (vs ++ v ∷ [])
note_prefix seen vs v own new e is h = record {
  numbers = λ axis. kept (is_value axis) vs v _ (ap (is_value axis) e) (h.numbers axis);
  prefixes = taken_on is_prefix vs v own seen.prefixes new (λ a. ap (is_prefix a) e) is h.prefixes;
  lengths = λ axis. kept (is_prefix_length axis) vs v _ (ap (is_prefix_length axis) e) (h.lengths axis);
  octets = kept is_octets vs v _ (ap is_octets e) h.octets;
  packets = kept is_packets vs v _ (ap is_packets e) h.packets;
}

pub note_length : (seen : FieldNumbers) (vs : List Value) (v : Value) (own : Axis) (new : Numbers) → element_of v.field
    ≡ PrefixLength own
    → ((axis : Axis) → number_on new axis ≡ first_on seen.lengths own (number_in v.content) axis) → Notes seen vs
    → Notes (record seen { lengths = new }) (vs ++ v ∷ [])
note_length seen vs v own new e is h = record {
  numbers = λ axis. kept (is_value axis) vs v _ (ap (is_value axis) e) (h.numbers axis);
  prefixes = λ axis. kept (is_prefix axis) vs v _ (ap (is_prefix axis) e) (h.prefixes axis);
  lengths = taken_on is_prefix_length vs v own seen.lengths new (λ a. ap (is_prefix_length a) e) is h.lengths;
  octets = kept is_octets vs v _ (ap is_octets e) h.octets;
  packets = kept is_packets vs v _ (ap is_packets e) h.packets;
}

pub note_octets : (seen : FieldNumbers) (vs : List Value) (v : Value) (new : Option ℕ) → element_of v.field
    ≡ OctetDeltaCount → new ≡ option_or seen.octets (Some (number_in v.content)) → Notes seen vs
    → Notes (record seen { octets = new }) (vs ++ v ∷ [])
note_octets seen vs v new e is h = record {
  numbers = λ axis. kept (is_value axis) vs v _ (ap (is_value axis) e) (h.numbers axis);
  prefixes = λ axis. kept (is_prefix axis) vs v _ (ap (is_prefix axis) e) (h.prefixes axis);
  lengths = λ axis. kept (is_prefix_length axis) vs v _ (ap (is_prefix_length axis) e) (h.lengths axis);
  octets = is ∙ taken is_octets vs v seen.octets (ap is_octets e) h.octets;
  packets = kept is_packets vs v _ (ap is_packets e) h.packets;
}

pub note_packets : (seen : FieldNumbers) (vs : List Value) (v : Value) (new : Option ℕ) → element_of v.field
    ≡ PacketDeltaCount → new ≡ option_or seen.packets (Some (number_in v.content)) → Notes seen vs
    → Notes (record seen { packets = new }) (vs ++ v ∷ [])
note_packets seen vs v new e is h = record {
  numbers = λ axis. kept (is_value axis) vs v _ (ap (is_value axis) e) (h.numbers axis);
  prefixes = λ axis. kept (is_prefix axis) vs v _ (ap (is_prefix axis) e) (h.prefixes axis);
  lengths = λ axis. kept (is_prefix_length axis) vs v _ (ap (is_prefix_length axis) e) (h.lengths axis);
  octets = kept is_octets vs v _ (ap is_octets e) h.octets;
  packets = is ∙ taken is_packets vs v seen.packets (ap is_packets e) h.packets;
}

-- an element that is not read
pub note_none : (seen : FieldNumbers) (vs : List Value) (v : Value) (element : Element) → element_of v.field ≡ element
    → ((axis : Axis) → is_value axis element ≡ false) → ((axis : Axis) → is_prefix axis element ≡ false)
    → ((axis : Axis) → is_prefix_length axis element ≡ false) → is_octets element ≡ false → is_packets element
    ≡ false
    → Notes seen vs → Notes seen (vs ++ v ∷ [])
note_none seen vs v element e value prefix length octets packets h = record {
  numbers = λ axis. kept (is_value axis) vs v _ (ap (is_value axis) e ∙ value axis) (h.numbers axis);
  prefixes = λ axis. kept (is_prefix axis) vs v _ (ap (is_prefix axis) e ∙ prefix axis) (h.prefixes axis);
  lengths = λ axis. kept (is_prefix_length axis) vs v _ (ap (is_prefix_length axis) e ∙ length axis) (h.lengths axis);
  octets = kept is_octets vs v _ (ap is_octets e ∙ octets) h.octets;
  packets = kept is_packets vs v _ (ap is_packets e ∙ packets) h.packets;
}

-- ---- records

pub record_at-cut_at : (fields : List FieldSpecifier) (i : ℕ) (d : FieldSpecifier) (bs : List ℕ) → i < length fields
    → None ≡ value_at (get_or fields i d).field_length bs → record_at (drop i fields) bs ≡ None
record_at-cut_at fields i d bs h e = ap (λ (fs : List FieldSpecifier). record_at fs bs) (here_and_on fields i d h)
    ∙ record_at-cut (get_or fields i d) (drop (i + 1) fields) bs (sym e)

pub record_at-some_at : (fields : List FieldSpecifier) (i : ℕ) (d : FieldSpecifier) (bs : List ℕ) (v : List ℕ × List ℕ)
    → i < length fields → Some v ≡ value_at (get_or fields i d).field_length bs
    → record_at (drop i fields) bs ≡ before_values (record { field = get_or fields i d; content = v.0 } ∷ [])
    (record_at (drop (i + 1) fields) v.1)
record_at-some_at fields i d bs v h e = ap (λ (fs : List FieldSpecifier). record_at fs bs) (here_and_on fields i d h)
    ∙ record_at-first (get_or fields i d) (drop (i + 1) fields) bs v (sym e)

pub record_at-all : (fields : List FieldSpecifier) (i : ℕ) (bs : List ℕ) → length fields ≤ i
    → record_at (drop i fields) bs ≡ Some ([], bs)
record_at-all fields i bs h = ap (λ (fs : List FieldSpecifier). record_at fs bs) (none_left fields i h)
    ∙ record_at-end bs

pub before_values-again : (xs : List Value) (v : Value) (r : Option (List Value × List ℕ))
    → before_values xs (before_values (v ∷ []) r) ≡ before_values (xs ++ v ∷ []) r
before_values-again xs v (Some p) = ap (λ (l : List Value). Some (l, p.1)) (sym (append_assoc xs (v ∷ []) p.0))
before_values-again xs v None = refl

-- the element at a place is that of the field there
pub element_at : (fields all : List FieldSpecifier) (elements : List Element) (i : ℕ) (d : FieldSpecifier) (e : Element)
    → fields ≡ all → elements ≡ map element_of all → i < length fields → element_of (get_or fields i d)
    ≡ get_or elements i e
element_at fields all elements i d e same are lt =
    sym (ap (λ (es : List Element). get_or es i e)
    (are ∙ ap (λ (fs : List FieldSpecifier). map element_of fs) (sym same)) ∙ get_or-map element_of fields i d e lt)
