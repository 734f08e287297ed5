-- Field specifiers, one after another.
use Rattle.std.proofs.Common.{◌≡◌, ℕ, zero, suc, ◌+◌, ◌/◌, ◌≤◌, Bool, true, false, ◌&&◌, ◌==◌, cond, ltb, List, [], ◌∷◌, ◌++◌, length, drop, refl, ap, sym, ◌∙◌, arith, append_assoc, add-one, length-drop, Option, Some, None, Result, Ok, Err, inl, inr}
use Rattle.std.specs.Prelude.{nat_le}
use Rattle.std.specs.Int.{w16}
use Rattle.std.proofs.lemmas.List.Sums.{sum_by_push}
use Rattle.std.proofs.lemmas.Bool.Decides.{nat_tests}
use Rattle.fx_elements.specs.declared.element.Element.{Element}
use Rattle.fx_elements.specs.declared.element.Element.TheVariants.{OnAxis, OctetDeltaCount, PacketDeltaCount, OctetTotalCount, PacketTotalCount, Prefix, PrefixLength, Other}
use Rattle.fx_elements.specs.declared.axis.Axis.TheVariants.{Source, Destination, Protocol, SourcePort, DestinationPort, ClassOfService, Version, Source6, Destination6}
use Rattle.fx_elements.specs.declared.axis.Axis.{Axis}
use Rattle.fx_elements.specs.Axes.{axis_width, is_address}
use Rattle.fx_wire.specs.Numbers.{number_at}
use Rattle.fx_wire.specs.Fields.{specifier_at, checked_field, field_at, fields_in, before_fields, can_have, stands, element_of}
use Rattle.fx_wire.specs.Values.{shortest_value, shortest_record}
use Rattle.fx_wire.specs.declared.field.FieldSpecifier.{FieldSpecifier}
use Rattle.fx_wire.specs.declared.malformed.Malformed.{Malformed}
use Rattle.fx_wire.specs.declared.malformed.Malformed.TheVariants as malformed
use Rattle.fx_wire.proofs.SetLists.{chosen}

and_first : (a b : Bool) → (a && b) ≡ true → a ≡ true
and_first true b e = refl
and_first false b e = e

at_least_one : (n : ℕ) (b : Bool) → (nat_le 1 n && b) ≡ true → 1 ≤ n
at_least_one n b e = let h = and_first (nat_le 1 n) b e in grind (arith, nat_tests)

is_some_length : (n : ℕ) → nat_le 1 n ≡ true → 1 ≤ n
is_some_length n h = grind (arith, nat_tests)

is_exactly : (m n : ℕ) → 1 ≤ m → (n == m) ≡ true → 1 ≤ n
is_exactly m n some h = grind (arith, nat_tests)

-- each axis has an octet at least
whole : (axis : Axis) → 1 ≤ axis_width axis / 8
whole Source = omega arith
whole Destination = omega arith
whole Protocol = omega arith
whole SourcePort = omega arith
whole DestinationPort = omega arith
whole ClassOfService = omega arith
whole Version = omega arith
whole Source6 = omega arith
whole Destination6 = omega arith

address_or_less : (b : Bool) (n m : ℕ) → 1 ≤ m → cond b (n == m) (nat_le 1 n && nat_le n m) ≡ true → 1 ≤ n
address_or_less true n m some h = is_exactly m n some h
address_or_less false n m some h = at_least_one n _ h

-- no value is empty
pub can_have-some : (e : Element) (n : ℕ) → can_have e n ≡ true → 1 ≤ n
can_have-some (OnAxis axis) n h = address_or_less (is_address axis) n (axis_width axis / 8) (whole axis) h
can_have-some (Prefix axis) n h = is_exactly (axis_width axis / 8) n (whole axis) h
can_have-some (PrefixLength axis) n h = is_exactly 1 n (omega arith) h
can_have-some OctetDeltaCount n h = is_some_length n h
can_have-some PacketDeltaCount n h = is_some_length n h
can_have-some OctetTotalCount n h = is_some_length n h
can_have-some PacketTotalCount n h = is_some_length n h
can_have-some Other n h = is_some_length n h

pub shortest_value-some : (f : FieldSpecifier) → 1 ≤ f.field_length → 1 ≤ shortest_value f
shortest_value-some f h = by (f.field_length == 65535) refl where
  by : (b : Bool) → (f.field_length == 65535) ≡ b → 1 ≤ cond b 1 f.field_length
  by true e = omega arith
  by false e = h

abbrev rest_or : List ℕ → Option (FieldSpecifier × List ℕ) → List ℕ
rest_or other (Some p) = p.1
rest_or other None = other

specifier_at-shorter : (bs : List ℕ) (p : FieldSpecifier × List ℕ) → specifier_at bs ≡ Some p → length p.1 ≤ length bs
specifier_at-shorter bs p e =
    elim (chosen (ltb (length bs) 4) None _ (Some p) e) [
      | inl h ↦ absurd cc
      | inr h ↦ elim (chosen (ltb (number_at w16 0 bs) 32768)
          (Some (
            record { element = number_at w16 0 bs; field_length = number_at w16 2 bs; enterprise = None },
            drop 4
                bs,
          )) _ (Some p) h.1) [
            | inl i ↦ let d = ap (rest_or []) i.1 in omega (arith, ap length d, length-drop 4 bs)
            | inr i ↦ elim (chosen (ltb (length bs) 8) None _ (Some p) i.1) [
              | inl j ↦ absurd cc
              | inr j ↦ let d = ap (rest_or []) j.1 in omega (arith, ap length d, length-drop 8 bs)
            ]
          ]
    ]

checked : (bs : List ℕ) (o : Option (FieldSpecifier × List ℕ)) (p : FieldSpecifier × List ℕ) → specifier_at bs ≡ o
    → checked_field o ≡ Ok p → (o ≡ Some p) × (stands p.0 ≡ true)
checked bs None p e f = absurd cc
checked bs (Some q) p e f =
    elim (chosen (stands q.0) (Ok q) (Err malformed.Template) (Ok p) f) [
      | inl h ↦ let same : q ≡ p = cc in (
        ap Some same,
        sym (ap (λ (x : FieldSpecifier × List ℕ). stands x.0) same)
            ∙ h.0,
      )
      | inr h ↦ absurd cc
    ]

-- a field that stands leaves no more octets, and its values have some
pub field_at-shorter : (bs : List ℕ) (p : FieldSpecifier × List ℕ) → field_at bs ≡ Ok p → (length p.1 ≤ length bs)
    × (1 ≤ shortest_value p.0)
field_at-shorter bs p e =
    let c = checked bs (specifier_at bs) p refl e in
    (specifier_at-shorter bs p c.0, shortest_value-some p.0 (can_have-some (element_of p.0) p.0.field_length c.1))

abbrev turn : ℕ → Result (FieldSpecifier × List ℕ) Malformed → Result (List FieldSpecifier × List ℕ) Malformed
turn n (Ok f) = before_fields (f.0 ∷ []) (fields_in n f.1)
turn n (Err e) = Err e

pub fields_in-none : (bs : List ℕ) → fields_in 0 bs ≡ Ok ([], bs)
unfolding fields_in
fields_in-none bs = refl

pub fields_in-first : (m n : ℕ) (bs : List ℕ) (p : FieldSpecifier × List ℕ) → m ≡ n + 1 → field_at bs ≡ Ok p
    → fields_in m bs ≡ before_fields (p.0 ∷ []) (fields_in n p.1)
unfolding fields_in
fields_in-first m n bs p k e = ap (λ (x : ℕ). fields_in x bs) (k ∙ add-one n) ∙ ap (turn n) e

pub fields_in-refused : (m n : ℕ) (bs : List ℕ) (e : Malformed) → n + 1 ≤ m → field_at bs ≡ Err e → fields_in m bs
    ≡ Err e
unfolding fields_in
fields_in-refused zero n bs e k h = absurd (omega arith)
fields_in-refused (suc m) n bs e k h = ap (turn m) h

pub before_fields-none : (r : Result (List FieldSpecifier × List ℕ) Malformed) → before_fields [] r ≡ r
before_fields-none (Ok p) = refl
before_fields-none (Err n) = refl

pub before_fields-again : (xs : List FieldSpecifier) (f : FieldSpecifier)
    (r : Result (List FieldSpecifier × List ℕ) Malformed) → before_fields xs (before_fields (f ∷ []) r)
    ≡ before_fields (xs ++ f ∷ []) r
before_fields-again xs f (Ok p) = ap (λ (l : List FieldSpecifier). Ok (l, p.1)) (sym (append_assoc xs (f ∷ []) p.0))
before_fields-again xs f (Err n) = refl

pub shortest_record-push : (fields : List FieldSpecifier) (f : FieldSpecifier) → shortest_record (fields ++ f ∷ [])
    ≡ shortest_record fields + shortest_value f
shortest_record-push fields f = sum_by_push shortest_value fields f
