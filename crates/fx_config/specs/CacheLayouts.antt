-- Layouts of caches' records (RFC 6728, section 4.3.3).
use Rattle.std.specs.Prelude.{ℕ, List, [], ◌∷◌, codes, map, Bool, true, false, not, ◌&&◌, is_some, if◌then◌else◌}
use Rattle.std.specs.List.{list_any, fold}
use Rattle.serde_json.specs.Data.{Data}
use Rattle.fx_walk.specs.Walk.{FoundFault, Row, object_faults, then_check, member_of, fault_if}
use Rattle.fx_walk.specs.Lists.{items_of}
use Rattle.fx_config.specs.CacheFields.{cache_field_of, fields_row}
use Rattle.fx_config.specs.declared.cache_field.CacheField.{CacheField}
use Rattle.fx_elements.specs.Axes.{axis_width}
use Rattle.fx_elements.specs.declared.element.Element.{Element}
use Rattle.fx_elements.specs.declared.element.Element.TheVariants.{OnAxis, OctetDeltaCount, PacketDeltaCount}
use Rattle.fx_layout.specs.Keys.{Layout, part_at, with_part}
use Rattle.fx_base.specs.Refusals.{missing_counter}

abbrev pub is_octet_count : Element → Bool
is_octet_count OctetDeltaCount = true
is_octet_count _ = false

abbrev pub is_packet_count : Element → Bool
is_packet_count PacketDeltaCount = true
is_packet_count _ = false

abbrev pub counts_octets : List CacheField → Bool
counts_octets fields = list_any (λ field. is_octet_count field.element) fields

abbrev pub counts_packets : List CacheField → Bool
counts_packets fields = list_any (λ field. is_packet_count field.element) fields

-- the fault if the octet counter or the packet counter is missing among the fields
abbrev pub counter_faults : List CacheField → List ℕ → List FoundFault
counter_faults fields up = fault_if (not (counts_octets fields && counts_packets fields)) missing_counter up

-- the layout with all bits of an axis, added once
abbrev pub add_axis : Layout → Element → Layout
add_axis layout (OnAxis axis) =
    if is_some (part_at layout axis) then layout else with_part layout (record { axis = axis; bits = axis_width axis })
add_axis layout _ = layout

abbrev pub add_key : Layout → CacheField → Layout
add_key layout field = if field.is_flow_key then add_axis layout field.element else layout

-- the layout of the axes that are flow keys
abbrev pub layout_of : List CacheField → Layout
layout_of fields = fold add_key [] fields

abbrev pub fields_in : Bool → Data → List CacheField
fields_in immediate d = map (cache_field_of immediate) (items_of (member_of (codes "cacheField") d))

abbrev pub cache_layout_rows : Bool → List Row
cache_layout_rows immediate =
    fields_row immediate
    ∷ then_check (λ up d. counter_faults (fields_in immediate d) up)
    ∷ []

abbrev pub cache_layout_faults : Bool → List ℕ → Data → List FoundFault
cache_layout_faults immediate = object_faults (cache_layout_rows immediate)

abbrev pub cache_layout_of : Bool → Data → Layout
cache_layout_of immediate d = layout_of (fields_in immediate d)
