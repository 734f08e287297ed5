-- Flow records in data records: their elements are those of the IANA registry (RFC 7012).
use Rattle.std.specs.Prelude.{ℕ, ◌+◌, ◌*◌, ◌%◌, ◌^◌, ◌==◌, Bool, true, false, nat_lt, if◌then◌else◌, List, [], ◌∷◌, fold, map, Option, Some, None, option_map, Result, Ok, Err}
use Rattle.std.specs.List.{find, flat_map, list_any}
use Rattle.fx_elements.specs.declared.axis.Axis.{Axis}
use Rattle.fx_elements.specs.declared.element.Element.{Element}
use Rattle.fx_elements.specs.declared.element.Element.TheVariants.{OnAxis, OctetDeltaCount, PacketDeltaCount, Prefix, PrefixLength}
use Rattle.fx_elements.specs.Axes.{Fields, axes, axis_width, is_address, same_axis}
use Rattle.fx_layout.specs.Keys.{Layout, Key, key_of}
use Rattle.fx_tables.specs.declared.record.Record.{Record}
use Rattle.fx_session.specs.declared.key.Leading.{Leading}
use Rattle.fx_wire.specs.Fields.{element_of}
use Rattle.fx_wire.specs.Values.{Value}
use Rattle.fx_session.specs.declared.stream_fault.StreamFault.{StreamFault}
use Rattle.fx_session.specs.declared.stream_fault.StreamFault.TheVariants as faults

-- ---- what is read of a data record

-- the number in the octets, most significant octet first (RFC 7011, section 6.1.1); of more than 16 octets, the last 16
unfoldable pub number_in : List ℕ → ℕ
number_in octets = fold (λ n b. n * 256 + b) 0 octets % 2 ^ 128

-- the number in the first field whose element satisfies the predicate, if there is one
abbrev pub first_where : (Element → Bool) → List Value → Option ℕ
first_where is values = option_map (λ v. number_in v.content) (find (λ v. is (element_of v.field)) values)

-- elements that give the value on an axis, a prefix of that value, and the length of that prefix
abbrev pub is_value : Axis → Element → Bool
is_value axis (OnAxis own) = same_axis own axis
is_value axis _ = false

abbrev pub is_prefix : Axis → Element → Bool
is_prefix axis (Prefix own) = same_axis own axis
is_prefix axis _ = false

abbrev pub is_prefix_length : Axis → Element → Bool
is_prefix_length axis (PrefixLength own) = same_axis own axis
is_prefix_length axis _ = false

-- the counters
abbrev pub is_octets : Element → Bool
is_octets OctetDeltaCount = true
is_octets _ = false

abbrev pub is_packets : Element → Bool
is_packets PacketDeltaCount = true
is_packets _ = false

-- ---- keys

-- what is known of the value on an axis
abbrev pub Found : Type 0
Found = Option Leading

-- a prefix without its length is ignored, a prefix of length 0 says nothing, and a prefix longer than the address is
-- refused
abbrev pub prefix_part : Axis → Option ℕ → Option ℕ → Result Found StreamFault
prefix_part axis (Some value) (Some bits) =
    if bits == 0 then Ok None else if nat_lt (axis_width axis) bits then Err faults.PrefixLength else Ok
    (Some (record { bits = bits; value = value }))
prefix_part axis _ _ = Ok None

-- a value takes precedence over a prefix, which only addresses have
abbrev pub part_on : Axis → Option ℕ → Option ℕ → Option ℕ → Result Found StreamFault
part_on axis (Some value) prefix bits = Ok (Some (record { bits = axis_width axis; value = value }))
part_on axis None prefix bits = if is_address axis then prefix_part axis prefix bits else Ok None

abbrev pub found_in : List Value → Axis → Result Found StreamFault
found_in values axis = part_on axis (first_where (is_value axis) values) (first_where (is_prefix axis) values)
    (first_where (is_prefix_length axis) values)

abbrev pub part_of : Axis → Found → Layout
part_of axis (Some p) = record { axis = axis; bits = p.bits } ∷ []
part_of axis None = []

-- a value on the axis, 0 where none is known
abbrev pub value_of : Axis → Found → ℕ
value_of axis (Some p) = p.value % 2 ^ axis_width axis
value_of axis None = 0

-- the layout, the fields and the key given by what is known on each axis
abbrev pub layout_of : (Axis → Found) → Layout
layout_of found = flat_map (λ axis. part_of axis (found axis)) axes

abbrev pub fields_of : (Axis → Found) → Fields
fields_of found = map (λ axis. value_of axis (found axis)) axes

abbrev pub key_along : (Axis → Found) → Key
key_along found = key_of (layout_of found) (fields_of found)

abbrev pub found_or_none : Result Found StreamFault → Found
found_or_none (Ok found) = found
found_or_none (Err fault) = None

abbrev pub is_refused : Result Found StreamFault → Bool
is_refused (Ok found) = false
is_refused (Err fault) = true

-- the key of what is known on the axes, if no axis is refused
abbrev pub key_by : (Axis → Result Found StreamFault) → Result Key StreamFault
key_by found =
    if list_any (λ axis. is_refused (found axis)) axes then Err faults.PrefixLength else Ok
    (key_along (λ axis. found_or_none (found axis)))

-- ---- records

abbrev pub with_counts : ℕ → ℕ → Result Key StreamFault → Result (Option Record) StreamFault
with_counts octets packets (Ok key) = Ok
    (Some (record { key = key; counts = record { packets = packets % 2 ^ 64; octets = octets % 2 ^ 64 } }))
with_counts octets packets (Err fault) = Err fault

abbrev pub flow_by : Option ℕ → Option ℕ → Result Key StreamFault → Result (Option Record) StreamFault
flow_by (Some octets) (Some packets) key = with_counts octets packets key
flow_by _ _ key = Ok None

-- the flow record of a data record; none if either counter is missing
unfoldable pub flow_in : List Value → Result (Option Record) StreamFault
flow_in values = flow_by (first_where is_octets values) (first_where is_packets values) (key_by (found_in values))
