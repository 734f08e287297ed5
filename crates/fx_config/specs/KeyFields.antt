-- Fields of the keys to which records are aggregated (RFC 7015), or of the key for which totals are requested.
use Rattle.std.specs.Prelude.{ℕ, List, [], ◌∷◌, codes, Bool, true, false, nat_lt, Option, Some, None, option_map}
use Rattle.serde_json.specs.Data.{Data}
use Rattle.serde_json.specs.Find.{get}
use Rattle.fx_walk.specs.Pointer.{below}
use Rattle.fx_walk.specs.Walk.{FoundFault, Row, object_faults, optional, then_check, fault_if}
use Rattle.fx_walk.specs.Choice.{one_of}
use Rattle.fx_walk.specs.Scalars.{number_of, text_faults, whole_faults}
use Rattle.fx_config.specs.GivenElements.{element_given, name_in, number_in}
use Rattle.fx_elements.specs.Axes.{axis_width}
use Rattle.fx_elements.specs.declared.axis.Axis.{Axis}
use Rattle.fx_elements.specs.declared.element.Element.{Element}
use Rattle.fx_elements.specs.declared.element.Element.TheVariants.{OnAxis, Prefix}
use Rattle.fx_layout.specs.declared.layout.Part.{Part}
use Rattle.fx_config.specs.declared.key_field.KeyField.{KeyField}
use Rattle.fx_base.specs.Refusals.{bad_value, missing_member}

-- the element's values are the leading bits of addresses
abbrev pub is_prefix : Element → Bool
is_prefix (Prefix axis) = true
is_prefix _ = false

-- the largest number of leading bits: that of the addresses, and 32 for an element that is no prefix
abbrev pub longest_prefix : Element → ℕ
longest_prefix (Prefix axis) = axis_width axis
longest_prefix _ = 32

-- the faults of a prefix without a length, and of a length longer than the addresses
abbrev pub prefix_check : Element → Option ℕ → List ℕ → List FoundFault
prefix_check element None up = fault_if (is_prefix element) missing_member up
prefix_check element (Some bits) up = fault_if (nat_lt (longest_prefix element) bits) bad_value
    (below up (codes "prefixLength"))

abbrev pub key_element_in : Data → Element
key_element_in d = element_given (name_in d) (number_in d) 0

abbrev pub prefix_length_in : Data → Option ℕ
prefix_length_in d = option_map number_of (get (codes "prefixLength") d)

abbrev pub key_field_rows : List Row
key_field_rows =
    one_of (codes "ieName" ∷ codes "ieId" ∷ [])
    ∷ optional (codes "ieName") text_faults
    ∷ optional (codes "ieId") (whole_faults 1 32767)
    ∷ optional (codes "prefixLength") (whole_faults 1 128)
    ∷ then_check (λ up d. prefix_check (key_element_in d) (prefix_length_in d) up)
    ∷ []

abbrev pub key_field_faults : List ℕ → Data → List FoundFault
key_field_faults = object_faults key_field_rows

abbrev pub key_field_of : Data → KeyField
key_field_of d = record {
  element = key_element_in d;
  prefix_length = prefix_length_in d;
}

-- ---- the part that a field denotes

-- all bits of an axis, if no other number is given
abbrev pub whole_part : Axis → Option ℕ → Option Part
whole_part axis None = Some (record { axis = axis; bits = axis_width axis })
whole_part axis (Some bits) = None

-- this number of leading bits of an address
abbrev pub prefix_part : Axis → Option ℕ → Option Part
prefix_part axis (Some bits) = Some (record { axis = axis; bits = bits })
prefix_part axis None = None

abbrev pub part_given : Element → Option ℕ → Option Part
part_given (OnAxis axis) prefix_length = whole_part axis prefix_length
part_given (Prefix axis) prefix_length = prefix_part axis prefix_length
part_given _ prefix_length = None

abbrev pub part_of : KeyField → Option Part
part_of field = part_given field.element field.prefix_length
