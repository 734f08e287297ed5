-- Field specifiers (RFC 7011, section 3.2): an element, the length of its values, and an enterprise number where the
-- first bit is set.
use Rattle.std.specs.Prelude.{ℕ, zero, suc, ◌-◌, ◌/◌, Bool, ◌&&◌, ◌==◌, nat_lt, nat_le, if◌then◌else◌, List, [], ◌∷◌, ◌++◌, length, drop, Option, Some, None, Result, Ok, Err}
use Rattle.std.specs.Int.{w16, w32}
use Rattle.fx_elements.specs.declared.element.Element.{Element}
use Rattle.fx_elements.specs.declared.element.Element.TheVariants.{OnAxis, Prefix, PrefixLength}
use Rattle.fx_elements.specs.Axes.{is_address, axis_width}
use Rattle.fx_elements.specs.Elements.{element_numbered}
use Rattle.fx_wire.specs.Numbers.{number_at}
use Rattle.fx_wire.specs.declared.field.FieldSpecifier.{FieldSpecifier}
use Rattle.fx_wire.specs.declared.malformed.Malformed.{Malformed}
use Rattle.fx_wire.specs.declared.malformed.Malformed.TheVariants as malformed

-- the specifier at the front and the octets after it, if it isn't cut
abbrev pub specifier_at : List ℕ → Option (FieldSpecifier × List ℕ)
specifier_at octets =
    if nat_lt (length octets) 4 then None
    else if nat_lt (number_at w16 0 octets) 32768
    then Some (
      record {
        element = number_at w16 0 octets;
        field_length = number_at w16 2 octets;
        enterprise =
            None;
      },
      drop 4 octets,
    )
    else if nat_lt (length octets) 8 then None
    else Some (
      record {
        element = number_at w16 0 octets - 32768;
        field_length = number_at w16 2 octets;
        enterprise =
            Some (number_at w32 4 octets);
      },
      drop 8 octets,
    )

-- the IANA registry's elements are those of enterprise 0
abbrev pub enterprise_number : Option ℕ → ℕ
enterprise_number None = 0
enterprise_number (Some n) = n

unfoldable pub element_of : FieldSpecifier → Element
element_of f = element_numbered f.element (enterprise_number f.enterprise)

-- whether the values of an element may have this length; 65535 stands for variable length: no value is empty,
-- addresses, prefixes and prefix lengths have full length, and other packet fields may be encoded in fewer octets
-- (section 6.2)
abbrev pub can_have : Element → ℕ → Bool
can_have (OnAxis axis) n = if is_address axis then n == axis_width axis / 8 else nat_le 1 n && nat_le n
    (axis_width axis / 8)
can_have (Prefix axis) n = n == axis_width axis / 8
can_have (PrefixLength axis) n = n == 1
can_have _ n = nat_le 1 n

abbrev pub stands : FieldSpecifier → Bool
stands f = can_have (element_of f) f.field_length

abbrev pub checked_field : Option (FieldSpecifier × List ℕ) → Result (FieldSpecifier × List ℕ) Malformed
checked_field None = Err malformed.Template
checked_field (Some p) = if stands p.0 then Ok p else Err malformed.Template

-- the field at the front of the octets, if its length is permitted
abbrev pub field_at : List ℕ → Result (FieldSpecifier × List ℕ) Malformed
field_at octets = checked_field (specifier_at octets)

abbrev pub before_fields : List FieldSpecifier → Result (List FieldSpecifier × List ℕ) Malformed
    → Result (List FieldSpecifier × List ℕ) Malformed
before_fields firsts (Ok p) = Ok (firsts ++ p.0, p.1)
before_fields firsts (Err why) = Err why

-- this number of fields and the octets after them, or the refusal of the first one whose length is not permitted
unfoldable pub fields_in : ℕ → List ℕ → Result (List FieldSpecifier × List ℕ) Malformed
fields_in zero octets = Ok ([], octets)
fields_in (suc n) octets = elim (field_at octets)
    [ Ok f ↦ before_fields (f.0 ∷ []) (fields_in n f.1) | Err why ↦ Err why ]
