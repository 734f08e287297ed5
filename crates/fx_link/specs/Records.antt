-- Flow records as encoded in messages (RFC 7011, sections 3.2, 3.4.1 and 3.4.3): the key's fields in axis order, then
-- the octet
-- count and the packet count, each in the full width of its element.
use Rattle.std.specs.Prelude.{ℕ, ◌-◌, ◌*◌, ◌/◌, ◌^◌, ◌==◌, Bool, if◌then◌else◌, List, [], ◌∷◌, ◌++◌, length, None}
use Rattle.std.specs.Int.{w16, to_be_bytes, bytes_high_first}
use Rattle.fx_base.specs.declared.counts.Counts.{Counts}
use Rattle.fx_elements.specs.declared.axis.Axis.{Axis}
use Rattle.fx_elements.specs.Axes.{axis_width}
use Rattle.fx_elements.specs.Elements.{element_number, prefix_number, prefix_length_number}
use Rattle.fx_layout.specs.declared.layout.Part.{Part}
use Rattle.fx_layout.specs.Keys.{Layout}
use Rattle.fx_tables.specs.declared.record.Record.{Record}
use Rattle.fx_wire.specs.declared.field.FieldSpecifier.{FieldSpecifier}

-- ---- fields

-- an element of the IANA registry with this number of octets
abbrev pub specifier : ℕ → ℕ → FieldSpecifier
specifier number octets = record { element = number; field_length = octets; enterprise = None }

-- the number of octets of a value on an axis
abbrev pub axis_octets : Axis → ℕ
axis_octets axis = axis_width axis / 8

-- whether a part has all bits of its axis
abbrev pub is_whole : Part → Bool
is_whole part = part.bits == axis_width part.axis

-- the axis's element; for leading bits of an address, its prefix followed by the prefix length
abbrev pub part_fields : Part → List FieldSpecifier
part_fields part =
    if is_whole part
    then specifier (element_number part.axis) (axis_octets part.axis) ∷ []
    else specifier (prefix_number part.axis) (axis_octets part.axis) ∷ specifier (prefix_length_number part.axis) 1 ∷ []

-- octetDeltaCount and packetDeltaCount
abbrev pub count_fields : List FieldSpecifier
count_fields = specifier 1 8 ∷ specifier 2 8 ∷ []

-- the fields of the records of a layout
abbrev pub fields_of : Layout → List FieldSpecifier
fields_of [] = count_fields
fields_of (part ∷ parts) = part_fields part ++ fields_of parts

-- ---- a template record

abbrev pub specifier_octets : FieldSpecifier → List ℕ
specifier_octets f = to_be_bytes w16 f.element ++ to_be_bytes w16 f.field_length

abbrev pub specifiers_octets : List FieldSpecifier → List ℕ
specifiers_octets [] = []
specifiers_octets (f ∷ fs) = specifier_octets f ++ specifiers_octets fs

-- the id, the number of fields, and the fields
abbrev pub template_octets : ℕ → Layout → List ℕ
template_octets id layout = to_be_bytes w16 id
    ++ (to_be_bytes w16 (length (fields_of layout)) ++ specifiers_octets (fields_of layout))

-- ---- data records

-- a value on an axis
abbrev pub whole_octets : Axis → ℕ → List ℕ
whole_octets axis value = bytes_high_first (axis_octets axis) value

-- an address all of whose bits after the leading ones are 0
abbrev pub prefix_of : Part → ℕ → ℕ
prefix_of part value = value * 2 ^ (axis_width part.axis - part.bits)

abbrev pub value_octets : Part → ℕ → List ℕ
value_octets part value =
    if is_whole part then whole_octets part.axis value else whole_octets part.axis (prefix_of part value) ++ part.bits
    ∷ []

abbrev pub key_octets : Layout → List ℕ → List ℕ
key_octets [] values = []
key_octets (part ∷ parts) [] = []
key_octets (part ∷ parts) (value ∷ values) = value_octets part value ++ key_octets parts values

abbrev pub counts_octets : Counts → List ℕ
counts_octets counts = bytes_high_first 8 counts.octets ++ bytes_high_first 8 counts.packets

unfoldable pub record_octets : Record → List ℕ
record_octets r = key_octets r.key.layout r.key.values ++ counts_octets r.counts

-- without padding
abbrev pub records_octets : List Record → List ℕ
records_octets [] = []
records_octets (r ∷ rs) = record_octets r ++ records_octets rs
