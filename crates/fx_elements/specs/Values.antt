-- What the text of a value means.
use Rattle.std.specs.Prelude.{ℕ, ◌+◌, ◌-◌, ◌*◌, ◌/◌, ◌^◌, if◌then◌else◌, List, [], ◌∷◌, ◌++◌, nat_lt, Option, Some, None, option_map, slice_index}
use Rattle.std.specs.Fmt.{decimal}
use Rattle.fx_elements.specs.declared.axis.Axis.{Axis}
use Rattle.fx_elements.specs.declared.values.Range.{Range}
use Rattle.fx_elements.specs.declared.element.Element.{Element}
use Rattle.fx_elements.specs.declared.element.Element.TheVariants.{OnAxis, Prefix}
use Rattle.fx_elements.specs.Axes.{axis_index, axis_width, is_address, is_wide, tops}
use Rattle.fx_elements.specs.Spelling.{number_of, quad_of, prefix_of, quad}
use Rattle.fx_elements.specs.Groups.{groups, groups_of}
use Rattle.fx_elements.specs.Address6.{address6_of, prefix6_of}

-- one value, all of whose bits are fixed
abbrev pub single : ℕ → ℕ → Range
single width value = record { low = value; high = value; bits = width }

-- the addresses of this width that begin with the leading bits of this one
abbrev pub with_prefix : ℕ → ℕ × ℕ → Range
with_prefix width p =
    record {
      low = p.0 / 2 ^ (width - p.1) * 2 ^ (width - p.1);
      high = p.0 / 2 ^ (width - p.1) * 2 ^ (width - p.1)
          + (2 ^ (width - p.1) - 1);
      bits = p.1;
    }

-- the value with this written form: addresses are dotted quads or eight groups, other values decimal numbers
abbrev pub written_on : Axis → List ℕ → Option ℕ
written_on axis text =
    if is_wide axis then groups_of text else (if is_address axis then quad_of text else number_of
    (slice_index tops (axis_index axis)) text)

-- the value that a document may spell with this text: an address of IPv6 has many spellings
abbrev pub value_on : Axis → List ℕ → Option ℕ
value_on axis text = if is_wide axis then address6_of text else written_on axis text

-- an address and a number of leading bits
abbrev pub prefix_on : Axis → List ℕ → Option (ℕ × ℕ)
prefix_on axis text = if is_wide axis then prefix6_of text else (if is_address axis then prefix_of text else None)

-- a single value on an axis, or the addresses of a prefix; no other element has values
abbrev pub values_of : Element → List ℕ → Option Range
values_of (OnAxis axis) text = option_map (single (axis_width axis)) (value_on axis text)
values_of (Prefix axis) text = option_map (with_prefix (axis_width axis)) (prefix_on axis text)
values_of _ text = None

abbrev pub axis_of : Element → Option Axis
axis_of (OnAxis axis) = Some axis
axis_of _ = None

-- an address or a number
abbrev pub value_text : Axis → ℕ → List ℕ
value_text axis value = if is_wide axis then groups value else (if is_address axis then quad value else decimal value)

-- the number of leading bits of a value, if it is less than the width of the axis
abbrev pub bits_text : Axis → ℕ → List ℕ
bits_text axis bits = if nat_lt bits (axis_width axis) then 47 ∷ decimal bits else []

-- a value of leading bits: the first value that begins with them, and their number if it is less than the width of the
-- axis
abbrev pub leading_text : Axis → ℕ → ℕ → List ℕ
leading_text axis bits value = value_text axis (value * 2 ^ (axis_width axis - bits)) ++ bits_text axis bits
