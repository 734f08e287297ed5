-- A template set that is written is read.
use Rattle.std.proofs.Common.{◌≡◌, ℕ, suc, ◌+◌, ◌*◌, ◌^◌, ◌≤◌, ◌<◌, Bool, true, false, ◌&&◌, not, ◌==◌, cond, ltb, lt-ltb, le-ltb, eq-eqb, List, [], ◌∷◌, ◌++◌, length, refl, ap, sym, ◌∙◌, arith, append_assoc, length-append, Option, Some, None, Ok, Err}
use Rattle.std.specs.Int.{w16, to_be_bytes}
use Rattle.std.specs.List.{list_all, AllByRecursion}
use Rattle.std.proofs.lemmas.Bool.{and_parts}
use Rattle.std.proofs.lemmas.Nat.{from_be_bytes-to_be_bytes_2}
use Rattle.std.proofs.lemmas.Bool.Decides.{nat_tests}
use Rattle.std.proofs.lemmas.List.{append-nil}
use Rattle.fx_elements.specs.declared.axis.Axis.{Axis}
use Rattle.fx_elements.specs.declared.element.Element.{Element}
use Rattle.fx_elements.specs.declared.element.Element.TheVariants.{OnAxis, Prefix, PrefixLength}
use Rattle.fx_elements.specs.Axes.{axis_count, axis_index, is_address}
use Rattle.fx_elements.specs.Elements.{element_number, prefix_number, prefix_length_number}
use Rattle.fx_elements.proofs.EveryAxis.{on_axis, index_below}
use Rattle.fx_elements.proofs.Numbering.{element_small, prefix_small, prefix_length_small}
use Rattle.fx_layout.specs.declared.layout.Part.{Part}
use Rattle.fx_layout.specs.Keys.{Layout, IsLayout, AxesAscend, can_stand}
use Rattle.fx_wire.specs.Numbers.{number_at}
use Rattle.fx_wire.specs.Fields.{element_of, can_have, specifier_at, checked_field, stands, field_at, before_fields, fields_in}
use Rattle.fx_wire.specs.Templates.{heading_at, declaration}
use Rattle.fx_wire.specs.declared.field.FieldSpecifier.{FieldSpecifier}
use Rattle.fx_wire.specs.declared.template.TemplateKind.TheVariants as kinds
use Rattle.fx_wire.specs.declared.template.TemplateHeading.TheVariants.{Declaration}
use Rattle.fx_wire.proofs.FieldSteps.{fields_in-none, fields_in-first}
use Rattle.fx_session.specs.Templates.{Template, Templates, at_number, with_entry, after_declaration}
use Rattle.fx_session.specs.TemplateSets as sets
use Rattle.fx_session.specs.TemplateSets.{is_counter, is_narrow, has_narrow, template_record, template_set, with_heading, with_fields}
use Rattle.fx_session.proofs.TemplateSteps.{template_set-more, template_set-padding}
use Rattle.fx_link.specs.Records.{specifier, axis_octets, is_whole, part_fields, fields_of, specifier_octets, specifiers_octets, template_octets}
use Rattle.fx_link.specs.Sending.{template_of}
use Rattle.fx_link.proofs.RecordTrip.{width_small}
use Rattle.fx_link.proofs.KeyTrip.{stands_address, whole_element, prefix_element, length_element}
use Rattle.fx_session.specs.declared.stream_fault.StreamFault.TheVariants as faults
use Rattle.fx_wire.specs.declared.malformed.Malformed.TheVariants as malformed

-- ---- fields

-- a field that can be written, stands, and has no narrow counter
record IsField (f : FieldSpecifier) : Type 0 where
  number : f.element < 32768
  size : f.field_length < 2 ^ 16
  plain : f.enterprise ≡ None
  stands_is : stands f ≡ true
  wide : is_narrow f ≡ false

field_shape : (f : FieldSpecifier) → f.enterprise ≡ None → f
    ≡ record { element = f.element; field_length = f.field_length; enterprise = None }
field_shape f e = ap (λ (o : Option ℕ). let g : FieldSpecifier =
    record { element = f.element; field_length = f.field_length; enterprise = o } in g) e

pub choose : {A : Type 0} (a b : Bool) (x y z : A) → a ≡ false → b ≡ true → cond a x (cond b y z) ≡ y
choose true b x y z e f = absurd cc
choose false true x y z e f = refl
choose false false x y z e f = absurd cc

abbrev shaped : ℕ → ℕ → Option ℕ → List ℕ → Option (FieldSpecifier × List ℕ)
shaped element size enterprise rest = Some (
  record { element = element; field_length = size; enterprise = enterprise },
  rest,
)

specifier_back : (f : FieldSpecifier) (rest : List ℕ) → IsField f → specifier_at (specifier_octets f ++ rest)
    ≡ Some (f, rest)
specifier_back f rest i =
    let bs : List ℕ = specifier_octets f ++ rest in
    let element : number_at w16 0 bs ≡ f.element =
    from_be_bytes-to_be_bytes_2 f.element (let h : f.element < 32768 = i.number in omega arith) in
    let size : number_at w16 2 bs ≡ f.field_length = from_be_bytes-to_be_bytes_2 f.field_length i.size in
    let long : ltb (length bs) 4 ≡ false = le-ltb (length bs) 4 (omega arith) in
    let plain : ltb (number_at w16 0 bs) 32768 ≡ true =
    lt-ltb (number_at w16 0 bs) 32768 (let h : f.element < 32768 = i.number in omega (arith, element)) in
    choose _ _ _ _ _ long plain
    ∙ ap (λ (n : ℕ). shaped n (number_at w16 2 bs) None rest) element
    ∙ ap (λ (n : ℕ). shaped f.element n None rest) size
    ∙ ap (λ (o : Option ℕ). shaped f.element f.field_length o rest) (sym i.plain)

field_back : (f : FieldSpecifier) (rest : List ℕ) → IsField f → field_at (specifier_octets f ++ rest) ≡ Ok (f, rest)
field_back f rest i =
    ap checked_field (specifier_back f rest i)
    ∙ ap (λ (t : Bool). cond t (Ok (f, rest)) (Err malformed.Template)) i.stands_is

fields_back : (fs : List FieldSpecifier) (rest : List ℕ) → AllByRecursion IsField fs
    → fields_in (length fs) (specifiers_octets fs ++ rest) ≡ Ok (fs, rest)
fields_back [] rest h = fields_in-none rest
fields_back (f ∷ fs) rest h =
    fields_in-first (suc (length fs)) (length fs) ((specifier_octets f ++ specifiers_octets fs) ++ rest)
    (f, specifiers_octets fs ++ rest) (omega arith)
    (ap field_at (append_assoc (specifier_octets f) (specifiers_octets fs) rest)
    ∙ field_back f (specifiers_octets fs ++ rest) h.0)
    ∙ ap (before_fields (f ∷ [])) (fields_back fs rest h.1)

none_narrow : (fs : List FieldSpecifier) → AllByRecursion IsField fs → has_narrow fs ≡ false
unfolding has_narrow
none_narrow [] h = refl
none_narrow (f ∷ fs) h = ap (λ (t : Bool). cond t true (has_narrow fs)) h.0.wide ∙ none_narrow fs h.1

-- ---- the fields of a layout

-- a field of an element that isn't a counter
of_element : (f : FieldSpecifier) (e : Element) → element_of f ≡ e → f.element < 32768 → f.field_length < 65535
    → f.enterprise ≡ None → can_have e f.field_length ≡ true → is_counter e ≡ false → IsField f
of_element f e is number size plain can counter = record {
  number = number;
  size = omega arith;
  plain = plain;
  stands_is = ap (λ (x : Element). can_have x f.field_length) is ∙ can;
  wide = ap (λ (x : Element). is_counter x && not (f.field_length == 8)) is
      ∙ ap (λ (t : Bool). t && not (f.field_length == 8)) counter;
}

whole_is : (axis : Axis) → IsField (specifier (element_number axis) (axis_octets axis))
whole_is axis =
    of_element (specifier (element_number axis) (axis_octets axis)) (OnAxis axis)
    (whole_element axis (axis_octets axis)) (element_small axis) (width_small axis) refl
    (on_axis (λ axis. can_have (OnAxis axis) (axis_octets axis)) refl axis) refl

prefix_is : (axis : Axis) → is_address axis ≡ true → IsField (specifier (prefix_number axis) (axis_octets axis))
prefix_is axis a =
    of_element (specifier (prefix_number axis) (axis_octets axis)) (Prefix axis)
    (prefix_element axis (axis_octets axis) a) (prefix_small axis) (width_small axis) refl
    (eq-eqb (axis_octets axis) (axis_octets axis) refl) refl

length_is : (axis : Axis) → is_address axis ≡ true → IsField (specifier (prefix_length_number axis) 1)
length_is axis a = of_element (specifier (prefix_length_number axis) 1) (PrefixLength axis) (length_element axis 1 a)
    (prefix_length_small axis) (omega arith) refl refl refl

counts_are : AllByRecursion IsField (fields_of [])
unfolding element_of
counts_are = (
  record { number = omega arith; size = omega arith; plain = refl; stands_is = refl; wide = refl },
  (record { number = omega arith; size = omega arith; plain = refl; stands_is = refl; wide = refl }, tt),
)

part_are : (part : Part) (fs : List FieldSpecifier) → can_stand part ≡ true → AllByRecursion IsField fs
    → AllByRecursion IsField (part_fields part ++ fs)
part_are part fs c h = by (is_whole part) refl where
  by : (t : Bool) → is_whole part ≡ t
      → AllByRecursion IsField (cond t (specifier (element_number part.axis) (axis_octets part.axis) ∷ [])
      (specifier (prefix_number part.axis) (axis_octets part.axis) ∷ specifier (prefix_length_number part.axis) 1
      ∷ []) ++ fs)
  by true w = (whole_is part.axis, h)
  by false w = let a : is_address part.axis ≡ true = stands_address part c w in
      (prefix_is part.axis a, (length_is part.axis a, h))

fields_are : (layout : Layout) → list_all can_stand layout ≡ true → AllByRecursion IsField (fields_of layout)
fields_are [] s = counts_are
fields_are (part ∷ parts) s = let two = and_parts (can_stand part) (list_all can_stand parts) s in
    part_are part (fields_of parts) two.0 (fields_are parts two.1)

-- two fields for each axis at most, and those of the counts
pub few_fields : (k : ℕ) (layout : Layout) → AxesAscend k layout → k ≤ axis_count → length (fields_of layout) + 2 * k
    ≤ 20
few_fields k [] a h = omega arith
few_fields k (part ∷ parts) a h =
    let before : axis_index part.axis < axis_count = index_below part.axis in
    let rest : length (fields_of parts) + 2 * suc (axis_index part.axis) ≤ 20 =
    few_fields (suc (axis_index part.axis)) parts a.1 (omega arith) in
    let more : length (part_fields part ++ fields_of parts) ≤ 2 + length (fields_of parts) =
    one_or_two part (fields_of parts) in
    omega (arith, a.0) where
      one_or_two : (part : Part) (fs : List FieldSpecifier) → length (part_fields part ++ fs) ≤ 2 + length fs
      one_or_two part fs = by (is_whole part) where
        by : (t : Bool) → length (cond t (specifier (element_number part.axis) (axis_octets part.axis) ∷ [])
            (specifier (prefix_number part.axis) (axis_octets part.axis) ∷ specifier (prefix_length_number part.axis) 1
            ∷ []) ++ fs) ≤ 2 + length fs
        by true = omega arith
        by false = omega arith

pub some_fields : (layout : Layout) → 2 ≤ length (fields_of layout)
some_fields [] = omega arith
some_fields (part ∷ parts) = let h : 2 ≤ length (fields_of parts) = some_fields parts in
    omega (arith, length-append (part_fields part) (fields_of parts))

-- ---- the template record

heading_back : (id count : ℕ) (rest : List ℕ) → 256 ≤ id → id < 2 ^ 16 → 1 ≤ count → count < 2 ^ 16
    → heading_at kinds.Plain (to_be_bytes w16 id ++ (to_be_bytes w16 count ++ rest))
    ≡ Ok (Declaration (record { id = id; scope = 0; count = count }), rest)
heading_back id count rest from below some few =
    let bs : List ℕ = to_be_bytes w16 id ++ (to_be_bytes w16 count ++ rest) in
    let id_is : number_at w16 0 bs ≡ id = from_be_bytes-to_be_bytes_2 id below in
    let count_is : number_at w16 2 bs ≡ count = from_be_bytes-to_be_bytes_2 count few in
    let counts : (number_at w16 2 bs == 0) ≡ false =
    (let apart : (count == 0) ≡ false = grind (arith, nat_tests) in ap (λ (n : ℕ). n == 0) count_is ∙ apart) in
    let allowed : ltb (number_at w16 0 bs) 256 ≡ false = le-ltb (number_at w16 0 bs) 256 (omega (arith, id_is)) in
    neither _ _ _ _ _ counts allowed
    ∙ ap (λ (n : ℕ). declaration kinds.Plain n (number_at w16 2 bs) bs) id_is
    ∙ ap (λ (n : ℕ). declaration kinds.Plain id n bs) count_is where
      neither : {A : Type 0} (a b : Bool) (x y z : A) → a ≡ false → b ≡ false → cond a x (cond b y z) ≡ z
      neither true b x y z e f = absurd cc
      neither false true x y z e f = absurd cc
      neither false false x y z e f = refl

declared_back : (ts : Templates) (id : ℕ) (new : Template) → at_number ts.plain id ≡ None → at_number ts.options id
    ≡ None
    → after_declaration ts kinds.Plain id new ≡ Ok (record { plain = with_entry ts.plain id new; options = ts.options })
declared_back ts id new p o = rw (p, o) refl

record_back : (ts : Templates) (id : ℕ) (layout : Layout) → IsLayout layout → 256 ≤ id → id < 2 ^ 16
    → at_number ts.plain id ≡ None → at_number ts.options id ≡ None
    → template_record ts kinds.Plain (template_octets id layout)
    ≡ Ok (record { plain = with_entry ts.plain id (template_of layout); options = ts.options }, [])
unfolding template_record
record_back ts id layout is from below p o =
    let count : ℕ = length (fields_of layout) in
    let few : count + 2 * 0 ≤ 20 = few_fields 0 layout is.ascends (omega arith) in
    let some : 2 ≤ count = some_fields layout in
    let back : fields_in count (specifiers_octets (fields_of layout)) ≡ Ok (fields_of layout, []) =
    ap (fields_in count) (sym (append-nil (specifiers_octets (fields_of layout))))
    ∙ fields_back (fields_of layout) [] (fields_are layout is.stands) in
    ap (with_heading ts kinds.Plain) (heading_back id count (specifiers_octets (fields_of layout)) from below
    (omega arith) (omega arith))
    ∙ ap (with_fields ts kinds.Plain id 0) back
    ∙ ap (λ (t : Bool). cond t (Err faults.CounterLength)
    (sets.followed_by [] (after_declaration ts kinds.Plain id (template_of layout))))
    (none_narrow (fields_of layout) (fields_are layout is.stands))
    ∙ ap (sets.followed_by []) (declared_back ts id (template_of layout) p o)

pub template_back : (ts : Templates) (id : ℕ) (layout : Layout) → IsLayout layout → 256 ≤ id → id < 2 ^ 16
    → at_number ts.plain id ≡ None → at_number ts.options id ≡ None
    → template_set ts kinds.Plain (template_octets id layout)
    ≡ Ok (record { plain = with_entry ts.plain id (template_of layout); options = ts.options })
template_back ts id layout is from below p o =
    let new : Templates = record { plain = with_entry ts.plain id (template_of layout); options = ts.options } in
    template_set-more ts kinds.Plain (template_octets id layout) (new, []) (omega arith)
    (record_back ts id layout is from below p o) ∙ template_set-padding new kinds.Plain [] (omega arith)
