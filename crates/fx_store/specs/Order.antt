-- The order of flow keys.
use Rattle.std.specs.declared.cmp.Ordering.{Ordering}
use Rattle.std.specs.Ordering.{nat_cmp, ordering_then}
use Rattle.std.specs.Cmp.Lexicographic.{slice_cmp}
use Rattle.fx_elements.specs.Axes.{axis_index}
use Rattle.fx_layout.specs.declared.layout.Part.{Part}
use Rattle.fx_layout.specs.Keys.{Layout, Key}

-- by the axis, then by the bits
abbrev pub part_cmp : Part → Part → Ordering
part_cmp p q = ordering_then (nat_cmp (axis_index p.axis) (axis_index q.axis)) (nat_cmp p.bits q.bits)

-- by the first part that differs
abbrev pub layout_cmp : Layout → Layout → Ordering
layout_cmp a b = slice_cmp part_cmp a b

-- by the first value that differs, in axis order; keys of equal values by their layouts
abbrev pub key_cmp : Key → Key → Ordering
key_cmp a b = ordering_then (slice_cmp nat_cmp a.values b.values) (layout_cmp a.layout b.layout)
