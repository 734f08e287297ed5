-- What is noted of the values of a data record.
use Rattle.std.specs.Prelude.{◌≡◌, ℕ, false, if◌then◌else◌, List, Option, Some, None, slice_index, slice_index_or, Result}
use Rattle.std.specs.Option.{option_or}
use Rattle.fx_elements.specs.declared.axis.Axis.{Axis}
use Rattle.fx_elements.specs.Axes.{axis_index, same_axis}
use Rattle.fx_wire.specs.Values.{Value}
use Rattle.fx_session.specs.declared.field_numbers.Numbers.{Numbers}
use Rattle.fx_session.specs.declared.field_numbers.FieldNumbers.{FieldNumbers}
use Rattle.fx_session.specs.Flows.{Found, first_where, is_value, is_prefix, is_prefix_length, is_octets, is_packets, part_on}
use Rattle.fx_session.specs.declared.stream_fault.StreamFault.{StreamFault}

abbrev pub Values : Type 0
Values = List Value

-- the number noted for an axis, if there is one
abbrev pub number_on : Numbers → Axis → Option ℕ
number_on numbers axis =
    if slice_index_or numbers.noted (axis_index axis) false then Some (slice_index numbers.values (axis_index axis))
    else None

-- a number is noted for its own axis, if none is noted yet, and for no other axis
abbrev pub first_on : Numbers → Axis → ℕ → Axis → Option ℕ
first_on numbers own number axis =
    if same_axis own axis then option_or (number_on numbers axis) (Some number) else number_on numbers axis

-- the first number of each element is noted, by axis
pub record Notes (seen : FieldNumbers) (values : Values) : Type 0 where
  pub numbers : (axis : Axis) → number_on seen.numbers axis ≡ first_where (is_value axis) values
  pub prefixes : (axis : Axis) → number_on seen.prefixes axis ≡ first_where (is_prefix axis) values
  pub lengths : (axis : Axis) → number_on seen.lengths axis ≡ first_where (is_prefix_length axis) values
  pub octets : seen.octets ≡ first_where is_octets values
  pub packets : seen.packets ≡ first_where is_packets values

-- what is noted of an axis
abbrev pub noted_part : FieldNumbers → Axis → Result Found StreamFault
noted_part seen axis = part_on axis (number_on seen.numbers axis) (number_on seen.prefixes axis)
    (number_on seen.lengths axis)
