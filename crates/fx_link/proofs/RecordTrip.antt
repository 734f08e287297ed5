-- A record that is written is read.
use Rattle.std.proofs.Common.{◌≡◌, ℕ, zero, suc, ◌<◌, Bool, true, false, ◌==◌, cond, ltb, ltb-true, le-ltb, List, [], ◌∷◌, ◌++◌, length, take, drop, refl, ap, sym, ◌∙◌, arith, append_assoc, length-append, Option, Some, None}
use Rattle.std.specs.Int.{bytes_high_first}
use Rattle.std.proofs.Math.Seq.{take-append_seam, drop-append_seam}
use Rattle.std.proofs.lemmas.Bool.Decides.{nat_tests}
use Rattle.fx_base.specs.declared.counts.Counts.{Counts}
use Rattle.fx_elements.specs.declared.axis.Axis.{Axis}
use Rattle.fx_elements.specs.Elements.{element_number, prefix_number, prefix_length_number}
use Rattle.fx_elements.proofs.EveryAxis.{on_axis}
use Rattle.fx_layout.specs.declared.layout.Part.{Part}
use Rattle.fx_layout.specs.Keys.{Layout, HasBits}
use Rattle.fx_wire.specs.declared.field.FieldSpecifier.{FieldSpecifier}
use Rattle.fx_wire.specs.Values.{Value, octets_at, variable_at, value_at, record_at, before_values}
use Rattle.fx_wire.proofs.RecordSteps.{record_at-first, record_at-end}
use Rattle.fx_link.specs.Records.{specifier, axis_octets, is_whole, part_fields, fields_of, whole_octets, prefix_of, value_octets, key_octets, counts_octets}

-- ---- the values that are read

abbrev pub whole_value : Axis → ℕ → Value
whole_value axis v = record {
  field = specifier (element_number axis) (axis_octets axis);
  content =
      whole_octets axis v;
}

abbrev pub prefix_value : Axis → ℕ → Value
prefix_value axis v = record {
  field = specifier (prefix_number axis) (axis_octets axis);
  content =
      whole_octets axis v;
}

abbrev pub length_value : Axis → ℕ → Value
length_value axis bits = record { field = specifier (prefix_length_number axis) 1; content = bits ∷ [] }

abbrev pub part_values : Part → ℕ → List Value
part_values part value =
    cond (is_whole part) (whole_value part.axis value ∷ [])
    (prefix_value part.axis (prefix_of part value) ∷ length_value part.axis part.bits ∷ [])

abbrev pub counts_values : Counts → List Value
counts_values counts =
    record { field = specifier 1 8; content = bytes_high_first 8 counts.octets }
    ∷ record { field = specifier 2 8; content = bytes_high_first 8 counts.packets } ∷ []

abbrev pub key_values : Layout → List ℕ → List Value
key_values [] values = []
key_values (part ∷ parts) [] = []
key_values (part ∷ parts) (value ∷ values) = part_values part value ++ key_values parts values

-- ---- reading field by field

octets_back : (n : ℕ) (content rest : List ℕ) → length content ≡ n → octets_at n (content ++ rest)
    ≡ Some (content, rest)
octets_back n content rest e =
    let there : ltb (length (content ++ rest)) n ≡ false =
    le-ltb (length (content ++ rest)) n (omega (arith, length-append content rest)) in
    let front : take n (content ++ rest) ≡ content = ap (λ (m : ℕ). take m (content ++ rest)) (sym e)
    ∙ take-append_seam content rest in
    let behind : drop n (content ++ rest) ≡ rest = ap (λ (m : ℕ). drop m (content ++ rest)) (sym e)
    ∙ drop-append_seam content rest in
    ap (λ (t : Bool). cond t None (Some (take n (content ++ rest), drop n (content ++ rest)))) there
    ∙ ap (λ (l : List ℕ). Some (l, drop n (content ++ rest))) front ∙ ap (λ (l : List ℕ). Some (content, l)) behind

pub below_apart : (n m : ℕ) → n < m → (n == m) ≡ false
below_apart n m h = grind (arith, nat_tests)

pub value_back : (n : ℕ) (content rest : List ℕ) → length content ≡ n → n < 65535 → value_at n (content ++ rest)
    ≡ Some (content, rest)
value_back n content rest e h =
    ap (λ (t : Bool). cond t (variable_at (content ++ rest)) (octets_at n (content ++ rest))) (below_apart n 65535 h)
    ∙ octets_back n content rest e

pub field_back : (f : FieldSpecifier) (fs : List FieldSpecifier) (content rest : List ℕ) → length content
    ≡ f.field_length → f.field_length < 65535
    → record_at (f ∷ fs) (content ++ rest) ≡ before_values (record { field = f; content = content } ∷ [])
    (record_at fs rest)
field_back f fs content rest e h = record_at-first f fs (content ++ rest) (content, rest)
    (value_back f.field_length content rest e h)

pub length-bytes : (n v : ℕ) → length (bytes_high_first n v) ≡ n
length-bytes zero v = refl
length-bytes (suc n) v = ap suc (length-bytes n v)

before-again : (xs ys : List Value) (r : Option (List Value × List ℕ)) → before_values xs (before_values ys r)
    ≡ before_values (xs ++ ys) r
before-again xs ys None = refl
before-again xs ys (Some p) = ap (λ (vs : List Value). Some (vs, p.1)) (sym (append_assoc xs ys p.0))

-- ---- parts

-- values have a length that is reported by their template
pub width_small : (axis : Axis) → axis_octets axis < 65535
width_small axis = ltb-true _ _ (on_axis (λ axis. ltb (axis_octets axis) 65535) refl axis)

part_back : (part : Part) (v : ℕ) (fs : List FieldSpecifier) (rest : List ℕ)
    → record_at (part_fields part ++ fs) (value_octets part v ++ rest)
    ≡ before_values (part_values part v) (record_at fs rest)
part_back part v fs rest = by (is_whole part) where
  by : (t : Bool)
      → record_at (cond t (specifier (element_number part.axis) (axis_octets part.axis) ∷ [])
      (specifier (prefix_number part.axis) (axis_octets part.axis) ∷ specifier (prefix_length_number part.axis) 1
      ∷ []) ++ fs)
      (cond t (whole_octets part.axis v) (whole_octets part.axis (prefix_of part v) ++ part.bits ∷ []) ++ rest)
      ≡ before_values (cond t (whole_value part.axis v ∷ [])
      (prefix_value part.axis (prefix_of part v) ∷ length_value part.axis part.bits ∷ [])) (record_at fs rest)
  by true = field_back (specifier (element_number part.axis) (axis_octets part.axis)) fs (whole_octets part.axis v) rest
      (length-bytes (axis_octets part.axis) v) (width_small part.axis)
  by false =
      let prefix : FieldSpecifier = specifier (prefix_number part.axis) (axis_octets part.axis) in
      let long : FieldSpecifier = specifier (prefix_length_number part.axis) 1 in
      let content : List ℕ = whole_octets part.axis (prefix_of part v) in
      ap (record_at (prefix ∷ long ∷ fs)) (append_assoc content (part.bits ∷ []) rest)
      ∙ field_back prefix (long ∷ fs) content (part.bits ∷ rest)
      (length-bytes (axis_octets part.axis) (prefix_of part v)) (width_small part.axis)
      ∙ ap (before_values (record { field = prefix; content = content } ∷ []))
      (field_back long fs (part.bits ∷ []) rest refl (omega arith))
      ∙ before-again (record { field = prefix; content = content } ∷ [])
      (record { field = long; content = part.bits ∷ [] } ∷ []) (record_at fs rest)

-- ---- records

counts_back : (counts : Counts) (rest : List ℕ) → record_at (fields_of []) (counts_octets counts ++ rest)
    ≡ Some (counts_values counts, rest)
counts_back counts rest =
    ap (record_at (fields_of [])) (append_assoc (bytes_high_first 8 counts.octets) (bytes_high_first 8 counts.packets)
    rest)
    ∙ field_back (specifier 1 8) (specifier 2 8 ∷ []) (bytes_high_first 8 counts.octets)
    (bytes_high_first 8 counts.packets ++ rest) refl (omega arith)
    ∙ ap (before_values (record { field = specifier 1 8; content = bytes_high_first 8 counts.octets } ∷ []))
    (field_back (specifier 2 8) [] (bytes_high_first 8 counts.packets) rest refl (omega arith)
    ∙ ap (before_values (record { field = specifier 2 8; content = bytes_high_first 8 counts.packets } ∷ []))
    (record_at-end rest))

-- the values of a record are those of its key, and its counts
pub record_back : (layout : Layout) (values : List ℕ) (counts : Counts) (rest : List ℕ) → HasBits layout values
    → record_at (fields_of layout) (key_octets layout values ++ (counts_octets counts ++ rest))
    ≡ Some (key_values layout values ++ counts_values counts, rest)
record_back [] [] counts rest h = counts_back counts rest
record_back [] (v ∷ vs) counts rest h = absurd h
record_back (part ∷ parts) [] counts rest h = absurd h
record_back (part ∷ parts) (v ∷ vs) counts rest h =
    ap (record_at (part_fields part ++ fields_of parts))
    (append_assoc (value_octets part v) (key_octets parts vs) (counts_octets counts ++ rest))
    ∙ part_back part v (fields_of parts) (key_octets parts vs ++ (counts_octets counts ++ rest))
    ∙ ap (before_values (part_values part v)) (record_back parts vs counts rest h.1)
    ∙ ap (λ (l : List Value). Some (l, rest))
    (sym (append_assoc (part_values part v) (key_values parts vs) (counts_values counts)))
