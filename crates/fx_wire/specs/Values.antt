-- Data records (RFC 7011, section 3.4.3): the values of a template's fields, in order.
use Rattle.std.specs.Prelude.{ℕ, ◌==◌, nat_lt, if◌then◌else◌, List, [], ◌∷◌, ◌++◌, length, take, drop, slice_index, sum_by, Option, Some, None}
use Rattle.std.specs.Int.{w16}
use Rattle.fx_wire.specs.Numbers.{number_at}
use Rattle.fx_wire.specs.declared.field.FieldSpecifier.{FieldSpecifier}

-- this number of octets and what follows them
abbrev pub octets_at : ℕ → List ℕ → Option (List ℕ × List ℕ)
octets_at n octets = if nat_lt (length octets) n then None else Some (take n octets, drop n octets)

-- a value of variable length: its length is in one octet below 255, or in the two octets after an octet 255 (section 7)
abbrev pub variable_at : List ℕ → Option (List ℕ × List ℕ)
variable_at octets =
    if nat_lt (length octets) 1 then None
    else if nat_lt (slice_index octets 0) 255 then octets_at (slice_index octets 0) (drop 1 octets)
    else if nat_lt (length octets) 3 then None
    else octets_at (number_at w16 1 octets) (drop 3 octets)

-- the value of a field with this length, and what follows it, unless the octets are too few
abbrev pub value_at : ℕ → List ℕ → Option (List ℕ × List ℕ)
value_at n octets = if n == 65535 then variable_at octets else octets_at n octets

-- a field's value
pub record Value : Type 0 where
  pub field : FieldSpecifier
  pub content : List ℕ

abbrev pub before_values : List Value → Option (List Value × List ℕ) → Option (List Value × List ℕ)
before_values firsts (Some p) = Some (firsts ++ p.0, p.1)
before_values firsts None = None

-- the record at the front under a template's fields, and what follows it, unless the octets are too few
unfoldable pub record_at : List FieldSpecifier → List ℕ → Option (List Value × List ℕ)
record_at [] octets = Some ([], octets)
record_at (f ∷ fs) octets = elim (value_at f.field_length octets)
    [ Some v ↦ before_values (record { field = f; content = v.0 } ∷ []) (record_at fs v.1) | None ↦ None ]

-- the minimum number of octets of a field's value
abbrev pub shortest_value : FieldSpecifier → ℕ
shortest_value f = if f.field_length == 65535 then 1 else f.field_length

-- the minimum number of octets of a record
abbrev pub shortest_record : List FieldSpecifier → ℕ
shortest_record fields = sum_by shortest_value fields

-- what follows the record at the front
abbrev pub rest_of : Option (List Value × List ℕ) → Option (List ℕ)
rest_of None = None
rest_of (Some p) = Some p.1

abbrev pub after_record : List FieldSpecifier → List ℕ → Option (List ℕ)
after_record fields octets = rest_of (record_at fields octets)
