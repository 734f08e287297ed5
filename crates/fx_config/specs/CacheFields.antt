-- Fields of caches' records (RFC 6728, section 4.3.3).
use Rattle.std.specs.Prelude.{ℕ, ◌==◌, ◌/◌, if◌then◌else◌, List, [], ◌∷◌, ◌++◌, codes, Bool, true, false, not, ◌&&◌, Option, Some, None, option_map, is_some, drop}
use Rattle.serde_json.specs.Data.{Data}
use Rattle.serde_json.specs.Find.{get}
use Rattle.fx_walk.specs.Pointer.{below}
use Rattle.fx_walk.specs.Walk.{FoundFault, Row, object_faults, required_row, optional, then_check, member_of, fault_if}
use Rattle.fx_walk.specs.Choice.{one_of}
use Rattle.fx_walk.specs.Lists.{entries, name_once}
use Rattle.fx_walk.specs.Scalars.{text_of, number_of, text_faults, whole_faults, empty_faults}
use Rattle.fx_elements.specs.declared.element.Element.{Element}
use Rattle.fx_elements.specs.declared.element.Element.TheVariants.{OnAxis, OctetDeltaCount, PacketDeltaCount, OctetTotalCount, PacketTotalCount}
use Rattle.fx_config.specs.GivenElements.{element_in}
use Rattle.fx_elements.specs.Axes.{axis_width}
use Rattle.fx_config.specs.Limits.{field_limit}
use Rattle.fx_config.specs.declared.cache_field.CacheField.{CacheField}
use Rattle.fx_config.specs.declared.cache_field.FieldUse.{FieldUse}
use Rattle.fx_base.specs.Refusals.{bad_value, cache_counter_length, key_without_axis, total_counter}

-- a counter since the observation began, rather than since the last report
abbrev pub is_total_count : Element → Bool
is_total_count OctetTotalCount = true
is_total_count PacketTotalCount = true
is_total_count _ = false

abbrev pub is_on_axis : Element → Bool
is_on_axis (OnAxis axis) = true
is_on_axis _ = false

-- a counter since the last report
abbrev pub is_delta_count : Element → Bool
is_delta_count OctetDeltaCount = true
is_delta_count PacketDeltaCount = true
is_delta_count _ = false

-- values on the element's axis don't have this number of octets
abbrev pub has_other_octets : Element → ℕ → Bool
has_other_octets (OnAxis axis) octets = not (octets == axis_width axis / 8)
has_other_octets _ octets = false

-- whether the field is a flow key: in an immediate cache every field on an axis, otherwise the fields marked as flow
-- keys
abbrev pub is_key : Bool → Element → Bool → Bool
is_key immediate element marked = if immediate then is_on_axis element else marked

-- the faults of a total counter, and of a key that isn't on an axis
abbrev pub element_faults : Element → Bool → List ℕ → List FoundFault
element_faults element key up = fault_if (is_total_count element) total_counter up
    ++ fault_if (key && not (is_on_axis element)) key_without_axis up

-- the faults of a counter whose length isn't 8 octets, and of a key with a wrong number of octets
abbrev pub length_faults : Element → Bool → Option ℕ → List ℕ → List FoundFault
length_faults element key None up = []
length_faults element key (Some octets) up =
    fault_if (is_delta_count element && not (octets == 8)) cache_counter_length (below up (codes "ieLength"))
    ++ fault_if (key && has_other_octets element octets) bad_value (below up (codes "ieLength"))

abbrev pub field_check : Element → Bool → Option ℕ → List ℕ → List FoundFault
field_check element key octets up = element_faults element key up ++ length_faults element key octets up

-- ---- the field

abbrev pub length_in : Data → Option ℕ
length_in d = option_map number_of (get (codes "ieLength") d)

abbrev pub is_key_in : Bool → Data → Bool
is_key_in immediate d = is_key immediate (element_in d) (is_some (get (codes "isFlowKey") d))

abbrev pub field_use : Bool → Data → FieldUse
field_use immediate d = record { element = element_in d; is_flow_key = is_key_in immediate d }

abbrev pub cache_field_rows : Bool → List (List ℕ) → List Row
cache_field_rows immediate earlier =
    required_row (codes "name") (name_once earlier)
    ∷ one_of (codes "ieName" ∷ codes "ieId" ∷ [])
    ∷ optional (codes "ieName") text_faults
    ∷ optional (codes "ieId") (whole_faults 1 32767)
    ∷ optional (codes "ieLength") (whole_faults 1 65535)
    ∷ optional (codes "ieEnterpriseNumber") (whole_faults 0 0xffff_ffff)
    ∷ optional (codes "isFlowKey") empty_faults
    ∷ then_check (λ up d. field_check (element_in d) (is_key_in immediate d) (length_in d) up)
    ∷ []

-- the rows of what a field contains, and of whether it is a flow key
abbrev pub use_rows : Bool → List Row
use_rows immediate = drop 1 (cache_field_rows immediate [])

abbrev pub cache_field_faults : Bool → List (List ℕ) → List ℕ → Data → List FoundFault
cache_field_faults immediate earlier = object_faults (cache_field_rows immediate earlier)

abbrev pub cache_field_of : Bool → Data → CacheField
cache_field_of immediate d = record {
  name = text_of (member_of (codes "name") d);
  element = element_in d;
  is_flow_key = is_key_in immediate d;
}

-- the row of a layout's fields
abbrev pub fields_row : Bool → Row
fields_row immediate = entries 1 field_limit (codes "cacheField") (cache_field_faults immediate)
    (λ d. (cache_field_of immediate d).name)
