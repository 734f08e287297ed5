-- Regions: the values that the fields of a class's packets may have.
use Rattle.std.specs.Prelude.{◌≤◌, ℕ, List, codes, map, nat_le, if◌then◌else◌, Option, Some, None, is_some, slice_index}
use Rattle.std.specs.Option.{unwrap_or, option_or}
use Rattle.serde_json.specs.Data.{Data}
use Rattle.serde_json.specs.Find.{get}
use Rattle.fx_elements.specs.Axes.{axes, axis_index, tops}
use Rattle.fx_elements.specs.Elements.{axis_name}
use Rattle.fx_elements.specs.Spelling.{cut_at}
use Rattle.fx_elements.specs.Values.{value_on, values_of}
use Rattle.fx_elements.specs.declared.axis.Axis.{Axis}
use Rattle.fx_elements.specs.declared.axis.Axis.TheVariants.{Source, Destination, Protocol, SourcePort, DestinationPort, ClassOfService, Version, Source6, Destination6}
use Rattle.fx_elements.specs.declared.element.Element.TheVariants.{OnAxis, Prefix}
use Rattle.fx_elements.specs.declared.values.Range.{Range}
use Rattle.fx_boxes.specs.Boxes.{Bounds}
use Rattle.fx_walk.specs.Walk.{FoundFault, Row, object_faults, optional}
use Rattle.fx_walk.specs.Scalars.{text_of}
use Rattle.fx_traffic.specs.Texts.{text_that}

-- ---- an axis

-- the values from one end to the other
abbrev pub span : Option ℕ → Option ℕ → Option Range
span None high = None
span (Some low) None = None
span (Some low) (Some high) = if nat_le low high then Some (record { low = low; high = high; bits = 0 }) else None

-- two values with a hyphen between them denote all values from the first to the second; any other text is a single
-- value
-- or a prefix of addresses
abbrev pub values_by : Axis → List ℕ → Option (List ℕ × List ℕ) → Option Range
values_by axis text None = option_or (values_of (OnAxis axis) text) (values_of (Prefix axis) text)
values_by axis text (Some ends) = span (value_on axis ends.0) (value_on axis ends.1)

abbrev pub values_on : Axis → List ℕ → Option Range
values_on axis text = values_by axis text (cut_at 45 text)

abbrev pub values_faults : Axis → List ℕ → Data → List FoundFault
values_faults axis = text_that (λ text. is_some (values_on axis text))

-- all values on the axis
abbrev pub all_on : Axis → Range
all_on axis = record { low = 0; high = slice_index tops (axis_index axis); bits = 0 }

abbrev pub values_in : Axis → Data → Range
values_in axis d = unwrap_or (values_on axis (text_of d)) (all_on axis)

-- an axis that the document doesn't name has all its values
abbrev pub values_given : Axis → Option Data → Range
values_given axis None = all_on axis
values_given axis (Some d) = values_in axis d

-- the low value is at most the high value, and the high value is at most the greatest
abbrev pub IsOn : Axis → Range → Type 0
IsOn axis values = (values.low ≤ values.high) × (values.high ≤ slice_index tops (axis_index axis))

-- ---- regions

abbrev pub region_rows : List Row
region_rows = map (λ axis. optional (axis_name axis) (values_faults axis)) axes

abbrev pub region_faults : List ℕ → Data → List FoundFault
region_faults = object_faults region_rows

abbrev pub bounds_of : List Range → Bounds
bounds_of ranges = record { low = map (λ values. values.low) ranges; high = map (λ values. values.high) ranges }

abbrev pub region_of : Data → Bounds
region_of d = bounds_of (map (λ axis. values_given axis (get (axis_name axis) d)) axes)

-- all fields
abbrev pub whole : Bounds
whole = bounds_of (map all_on axes)

abbrev pub region_given : Option Data → Bounds
region_given None = whole
region_given (Some d) = region_of d
