-- Layouts that are built along the axes.
use Rattle.std.specs.Prelude.{◌≡◌, ◌≢◌, ℕ, ◌<◌, ◌==◌, if◌then◌else◌, true, List, [], ◌∷◌, Some, None, slice_index, Result, Ok, Err}
use Rattle.std.specs.List.{flat_map}
use Rattle.fx_elements.specs.declared.axis.Axis.{Axis}
use Rattle.fx_elements.specs.Axes.{axes, axis_index}
use Rattle.fx_layout.specs.Keys.{Layout, can_stand}
use Rattle.fx_session.specs.Flows.{Found, is_refused, found_or_none, value_of}
use Rattle.fx_session.specs.declared.stream_fault.StreamFault.{StreamFault}
use Rattle.fx_session.specs.declared.stream_fault.StreamFault.TheVariants as faults

-- all parts are of axes whose index is below this one
abbrev pub AllBefore : Layout → ℕ → Type 0
AllBefore [] place = Unit {0}
AllBefore (p ∷ ps) place = (axis_index p.axis < place) × AllBefore ps place

-- what is known of the axis is permitted in a layout
abbrev pub Stands : Axis → Found → Type 0
Stands axis (Some leading) = can_stand (record { axis = axis; bits = leading.bits }) ≡ true
Stands axis None = Unit {0}

abbrev pub PartStands : Axis → Result Found StreamFault → Type 0
PartStands axis (Ok found) = Stands axis found
PartStands axis (Err fault) = fault ≡ faults.PrefixLength

-- the number of leading bits known, 0 if none
abbrev pub bits_of : Found → ℕ
bits_of (Some leading) = leading.bits
bits_of None = 0

-- the lists hold, at the axis's index, the number of leading bits known (0 if none) and the value
pub record IsGathered (bits values : List ℕ) (axis : Axis) (part : Result Found StreamFault) : Type 0 where
  pub read : part ≡ Ok (found_or_none part)
  pub stands : Stands axis (found_or_none part)
  pub leading : slice_index bits (axis_index axis) ≡ bits_of (found_or_none part)
  pub value : slice_index values (axis_index axis) ≡ value_of axis (found_or_none part)

-- the lists hold what is read on each axis, or the refusal is that of some axis
abbrev pub Gathers : (Axis → Result Found StreamFault) → List ℕ → List ℕ → Result (Unit {0}) StreamFault → Type 0
Gathers part bits values (Ok done) = (axis : Axis) → IsGathered bits values axis (part axis)
Gathers part bits values (Err fault) = (fault ≡ faults.PrefixLength) × (axis : Axis) × (is_refused (part axis) ≡ true)

-- this number of bits of the axis is permitted in a layout, if it is not 0
abbrev pub BitsStand : Axis → ℕ → Type 0
BitsStand axis bits = bits ≢ 0 → can_stand (record { axis = axis; bits = bits }) ≡ true

-- these numbers of bits are permitted in a layout, on each axis
abbrev pub AllStand : List ℕ → Type 0
AllStand bits = (axis : Axis) → BitsStand axis (slice_index bits (axis_index axis))

abbrev pub part_by : Axis → ℕ → Layout
part_by axis bits = if bits == 0 then [] else record { axis = axis; bits = bits } ∷ []

-- the layout with these numbers of bits on the axes, in axis order
abbrev pub layout_by : List ℕ → Layout
layout_by bits = flat_map (λ axis. part_by axis (slice_index bits (axis_index axis))) axes
