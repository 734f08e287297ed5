-- Networks and classes that name only some axes, and packets that differ only on the others.
use Rattle.std.specs.Prelude.{◌≡◌, ◌≤◌, Bool, true, false, List, length, All, IfSome}
use Rattle.std.specs.List.{AllZip}
use Rattle.fx_elements.specs.declared.axis.Axis.{Axis}
use Rattle.fx_elements.specs.declared.axis.Axis.TheVariants.{Source, Destination, Protocol, SourcePort, DestinationPort, ClassOfService}
use Rattle.fx_elements.specs.Axes.{Fields, field, tops}
use Rattle.fx_boxes.specs.Boxes.{Bounds}
use Rattle.fx_layout.specs.declared.layout.Part.{Part}
use Rattle.fx_layout.specs.Keys.{Layout}
use Rattle.fx_tables.specs.declared.observation.Selection.{Selection}
use Rattle.fx_tables.specs.declared.packet.Packet.{Packet}
use Rattle.fx_tables.specs.Network.{Net, DeviceEntry, Holder, Point}
use Rattle.fx_tables.specs.Classes.{Class}

-- ---- packets

-- the same value on each named axis
abbrev pub AgreeOnAxes : (Axis → Bool) → Fields → Fields → Type 0
AgreeOnAxes named f g = (axis : Axis) → named axis ≡ true → field f axis ≡ field g axis

-- on each other axis a value within the axis's width
abbrev pub FitsElsewhere : (Axis → Bool) → Fields → Type 0
FitsElsewhere named f = (axis : Axis) → named axis ≡ false → field f axis ≤ field tops axis

-- on each other axis the value 0
abbrev pub HasZerosElsewhere : (Axis → Bool) → Packet → Type 0
HasZerosElsewhere named packet = (axis : Axis) → named axis ≡ false → field packet.fields axis ≡ 0

-- the same packet except for its values on the axes that aren't named, which may be any within the width
pub record IsAlike (named : Axis → Bool) (p q : Packet) : Type 0 where
  pub octets : p.octets ≡ q.octets
  pub class : p.class ≡ q.class
  pub path : p.path ≡ q.path
  pub agree : AgreeOnAxes named p.fields q.fields
  pub first_fits : FitsElsewhere named p.fields
  pub second_fits : FitsElsewhere named q.fields

-- the packets of two lists are alike, index by index
abbrev pub AreAlike : (Axis → Bool) → List Packet → List Packet → Type 0
AreAlike named ps qs = AllZip (IsAlike named) ps qs

-- ---- what a network and classes name

-- each part has a named axis
abbrev pub LayoutNamesOnly : (Axis → Bool) → Layout → Type 0
LayoutNamesOnly named layout = All (λ (part : Part). named part.axis ≡ true) layout

-- the region contains all values of each other axis
abbrev pub RegionNamesOnly : (Axis → Bool) → Bounds → Type 0
RegionNamesOnly named region =
    (axis : Axis) → named axis ≡ false → (field region.low axis ≡ 0) × (field region.high axis ≡ field tops axis)

abbrev pub PointNamesOnly : (Axis → Bool) → Point → Type 0
PointNamesOnly named point = All (λ (s : Selection). IfSome s.region (RegionNamesOnly named)) point.selections

-- packets are selected, and keys are kept and reported, by named axes only; aggregations match keys, and
-- never packets
pub record NamesOnly (named : Axis → Bool) (net : Net) : Type 0 where
  pub holders : All (λ (holder : Holder). LayoutNamesOnly named holder.layout) net.holders
  pub report : LayoutNamesOnly named net.report_layout
  pub selections : All (λ (device : DeviceEntry). All (PointNamesOnly named) device.points) net.devices

abbrev pub ClassesNameOnly : (Axis → Bool) → List Class → Type 0
ClassesNameOnly named classes = All (λ (class : Class). RegionNamesOnly named class.region) classes

-- ---- without the axes of IPv6

-- the six axes before the three of IPv6
abbrev pub is_of_six : Axis → Bool
is_of_six Source = true
is_of_six Destination = true
is_of_six Protocol = true
is_of_six SourcePort = true
is_of_six DestinationPort = true
is_of_six ClassOfService = true
is_of_six _ = false

-- a packet with values on these six axes only
abbrev pub HasSixValues : Packet → Type 0
HasSixValues packet = length packet.fields ≡ 6
