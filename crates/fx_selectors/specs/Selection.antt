-- What a selection process selects (RFC 6728; property match filtering in RFC 5475, section 6.1).
use Rattle.std.specs.Prelude.{map, Bool, true, ◌&&◌, nat_le, min, max, if◌then◌else◌, List, Option, Some, None, slice_set}
use Rattle.std.specs.List.{list_all, fold}
use Rattle.fx_elements.specs.Axes.{Fields, field, axes, axis_index, tops}
use Rattle.fx_boxes.specs.Boxes.{Bounds, holds}
use Rattle.fx_config.specs.declared.property_match.PropertyMatch.{PropertyMatch}
use Rattle.fx_config.specs.declared.selector.Method.{Method}
use Rattle.fx_config.specs.declared.selector.Method.TheVariants.{SelectAll, FilterMatch}
use Rattle.fx_config.specs.declared.selector.Selector.{Selector}
use Rattle.fx_config.specs.declared.selection_process.SelectionProcess.{SelectionProcess}

-- ---- selection

-- the value on the axis of the match is one of the match's values
abbrev pub has : PropertyMatch → Fields → Bool
has m fields = nat_le m.range.low (field fields m.axis) && nat_le (field fields m.axis) m.range.high

abbrev pub passes : Method → Fields → Bool
passes SelectAll fields = true
passes (FilterMatch m) fields = has m fields

-- a process selects the packets that pass each of its selectors
abbrev pub selects : SelectionProcess → Fields → Bool
selects process fields = list_all (λ selector. passes selector.method fields) process.selectors

-- ---- regions

-- all packets
abbrev pub everything : Bounds
everything = record { low = map (λ axis. 0) axes; high = tops }

-- the bounds that remain after a match: no value on its axis is below its low or above its high
abbrev pub bounds_within : Bounds → PropertyMatch → Bounds
bounds_within b m = record {
  low = slice_set b.low (axis_index m.axis) (max (field b.low m.axis) m.range.low);
  high = slice_set b.high (axis_index m.axis) (min (field b.high m.axis) m.range.high);
}

abbrev pub narrowed_by : Bounds → Method → Bounds
narrowed_by b SelectAll = b
narrowed_by b (FilterMatch m) = bounds_within b m

abbrev pub bounds_of : List Selector → Bounds
bounds_of selectors = fold (λ b selector. narrowed_by b selector.method) everything selectors

-- the bounds contain some fields: the high values are valid fields, and none is below its low value
abbrev pub has_room : Bounds → Bool
has_room b = holds (record { low = b.low; high = tops }) b.high

abbrev pub region_within : Bounds → Option Bounds
region_within b = if has_room b then Some b else None

-- the region of the packets that a process selects, if it selects any
abbrev pub region_of : SelectionProcess → Option Bounds
region_of process = region_within (bounds_of process.selectors)
