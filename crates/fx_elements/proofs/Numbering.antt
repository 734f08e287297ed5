-- Each axis's elements have its numbers in the registry.
use Rattle.std.proofs.Common.{◌≡◌, ◌<◌, true, ltb, ltb-true, refl}
use Rattle.fx_elements.specs.declared.axis.Axis.{Axis}
use Rattle.fx_elements.specs.declared.axis.Axis.TheVariants.{Source, Destination, Protocol, SourcePort, DestinationPort, ClassOfService, Version, Source6, Destination6}
use Rattle.fx_elements.specs.declared.element.Element.TheVariants.{OnAxis, Prefix, PrefixLength}
use Rattle.fx_elements.specs.Axes.{is_address}
use Rattle.fx_elements.specs.Elements.{element_numbered, element_number, prefix_number, prefix_length_number}
use Rattle.fx_elements.proofs.EveryAxis.{on_axis}

pub element_back : (axis : Axis) → element_numbered (element_number axis) 0 ≡ OnAxis axis
element_back Source = refl
element_back Destination = refl
element_back Protocol = refl
element_back SourcePort = refl
element_back DestinationPort = refl
element_back ClassOfService = refl
element_back Version = refl
element_back Source6 = refl
element_back Destination6 = refl

pub prefix_back : (axis : Axis) → is_address axis ≡ true → element_numbered (prefix_number axis) 0 ≡ Prefix axis
prefix_back Source a = refl
prefix_back Destination a = refl
prefix_back Protocol a = absurd cc
prefix_back SourcePort a = absurd cc
prefix_back DestinationPort a = absurd cc
prefix_back ClassOfService a = absurd cc
prefix_back Version a = absurd cc
prefix_back Source6 a = refl
prefix_back Destination6 a = refl

pub prefix_length_back : (axis : Axis) → is_address axis ≡ true → element_numbered (prefix_length_number axis) 0
    ≡ PrefixLength axis
prefix_length_back Source a = refl
prefix_length_back Destination a = refl
prefix_length_back Protocol a = absurd cc
prefix_length_back SourcePort a = absurd cc
prefix_length_back DestinationPort a = absurd cc
prefix_length_back ClassOfService a = absurd cc
prefix_length_back Version a = absurd cc
prefix_length_back Source6 a = refl
prefix_length_back Destination6 a = refl

-- numbers of the IANA registry are below the bit that tells an enterprise's
pub element_small : (axis : Axis) → element_number axis < 32768
element_small axis = ltb-true _ _ (on_axis (λ axis. ltb (element_number axis) 32768) refl axis)

pub prefix_small : (axis : Axis) → prefix_number axis < 32768
prefix_small axis = ltb-true _ _ (on_axis (λ axis. ltb (prefix_number axis) 32768) refl axis)

pub prefix_length_small : (axis : Axis) → prefix_length_number axis < 32768
prefix_length_small axis = ltb-true _ _ (on_axis (λ axis. ltb (prefix_length_number axis) 32768) refl axis)
