-- Nine values on their axes are the fields of a packet.
use Rattle.std.proofs.Common.{ℕ, [], ◌∷◌, ◌≤◌, ◌<◌, ◌^◌, arith}
use Rattle.std.specs.Prelude.{slice_index}
use Rattle.fx_elements.specs.declared.axis.Axis.{Axis}
use Rattle.fx_elements.specs.declared.axis.Axis.TheVariants as axis
use Rattle.fx_elements.specs.Axes.{axis_index, tops}
use Rattle.fx_elements.proofs.EveryAxis.{each_on}
use Rattle.fx_boxes.specs.Boxes.{IsFields}

pub all_on_axes : (a b c d e f g h i : ℕ) → a ≤ 4294967295 → b ≤ 4294967295 → c ≤ 255 → d ≤ 65535 → e ≤ 65535 → f ≤ 255
    → g ≤ 255 → h < 2 ^ 128 → i < 2 ^ 128 → IsFields (a ∷ b ∷ c ∷ d ∷ e ∷ f ∷ g ∷ h ∷ i ∷ [])
all_on_axes a b c d e f g h i ha hb hc hd he hf hg hh hi = each_on of on
  where
    of : Axis → ℕ
    of axis.Source = a
    of axis.Destination = b
    of axis.Protocol = c
    of axis.SourcePort = d
    of axis.DestinationPort = e
    of axis.ClassOfService = f
    of axis.Version = g
    of axis.Source6 = h
    of axis.Destination6 = i

    on : (x : Axis) → of x ≤ slice_index tops (axis_index x)
    on axis.Source = ha
    on axis.Destination = hb
    on axis.Protocol = hc
    on axis.SourcePort = hd
    on axis.DestinationPort = he
    on axis.ClassOfService = hf
    on axis.Version = hg
    on axis.Source6 = omega (arith, hh)
    on axis.Destination6 = omega (arith, hi)
