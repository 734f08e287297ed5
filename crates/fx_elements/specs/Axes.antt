-- The axes in their fixed order, and the width of each.
use Rattle.std.specs.Prelude.{ℕ, ◌-◌, ◌^◌, Bool, true, false, ◌==◌, List, [], ◌∷◌, map, slice_index}
use Rattle.fx_elements.specs.declared.axis.Axis.{Axis}
use Rattle.fx_elements.specs.declared.axis.Axis.TheVariants.{Source, Destination, Protocol, SourcePort, DestinationPort, ClassOfService, Version, Source6, Destination6}

-- the number of axes
abbrev pub axis_count : ℕ
axis_count = 9

-- all axes, in order
abbrev pub axes : List Axis
axes = Source ∷ Destination ∷ Protocol ∷ SourcePort ∷ DestinationPort ∷ ClassOfService ∷ Version ∷ Source6
    ∷ Destination6 ∷ []

-- the index of an axis, from 0
abbrev pub axis_index : Axis → ℕ
axis_index Source = 0
axis_index Destination = 1
axis_index Protocol = 2
axis_index SourcePort = 3
axis_index DestinationPort = 4
axis_index ClassOfService = 5
axis_index Version = 6
axis_index Source6 = 7
axis_index Destination6 = 8

-- the number of bits of a value
abbrev pub axis_width : Axis → ℕ
axis_width Source = 32
axis_width Destination = 32
axis_width Protocol = 8
axis_width SourcePort = 16
axis_width DestinationPort = 16
axis_width ClassOfService = 8
axis_width Version = 8
axis_width Source6 = 128
axis_width Destination6 = 128

-- the greatest value of each axis, in order: all of its bits are 1
abbrev pub tops : List ℕ
tops = map (λ axis. 2 ^ axis_width axis - 1) axes

-- the values of an axis are addresses, which have prefixes
abbrev pub is_address : Axis → Bool
is_address Source = true
is_address Destination = true
is_address Source6 = true
is_address Destination6 = true
is_address _ = false

-- the values are addresses of IPv6, eight groups of 16 bits
abbrev pub is_wide : Axis → Bool
is_wide Source6 = true
is_wide Destination6 = true
is_wide _ = false

abbrev pub same_axis : Axis → Axis → Bool
same_axis a b = axis_index a == axis_index b

-- a packet's values, one for each axis in order
abbrev pub Fields : Type 0
Fields = List ℕ

abbrev pub field : Fields → Axis → ℕ
field fields axis = slice_index fields (axis_index axis)
