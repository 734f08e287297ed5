use Rattle.std.proofs.Common.{◌≡◌, ℕ, List, [], ◌∙◌, true, ap, sym, refl, get_or, Option, Some, None}
use Rattle.std.specs.List.{list_any}
use Rattle.fx_elements.specs.declared.axis.Axis.{Axis}
use Rattle.fx_elements.specs.declared.axis.Axis.TheVariants as axes
use Rattle.fx_elements.specs.Axes.{axis_index, axis_width}
use Rattle.fx_layout.specs.Keys.{can_stand}
use Rattle.fx_session.specs.declared.places.ValuePlace.{ValuePlace}
use Rattle.fx_session.specs.Parts.{Stands}
use Rattle.fx_session.specs.Places.{found_at, is_any_prefix}
use Rattle.fx_session.proofs.Layouts.{bits_stand, layout_by-is}
use Rattle.fx_session.proofs.places.RecordPlaces.of.Goals as goal

all_bits_stand : (axis : Axis) → can_stand (record { axis = axis; bits = axis_width axis }) ≡ true
all_bits_stand axes.Source = refl
all_bits_stand axes.Destination = refl
all_bits_stand axes.Protocol = refl
all_bits_stand axes.SourcePort = refl
all_bits_stand axes.DestinationPort = refl
all_bits_stand axes.ClassOfService = refl
all_bits_stand axes.Version = refl
all_bits_stand axes.Source6 = refl
all_bits_stand axes.Destination6 = refl

stands_at : (octets : List ℕ) (axis : Axis) (place : Option ValuePlace) → Stands axis (found_at octets axis place)
stands_at octets axis (Some place) = all_bits_stand axis
stands_at octets axis None = tt

pub layout_of-layout-requires : goal.layout_of-layout-requires
layout_of-layout-requires c = λ axis.
    let place = get_or c.places_of-values.result (axis_index axis) None in
    bits_stand axis (found_at [] axis place) (get_or c.bits_of_places.result (axis_index axis) 0)
    (stands_at [] axis place) (c.bits_of_places.ensures axis [])

pub returns : goal.returns
returns c = record {
  fixed = cc (c.if-not-have_fixed_lengths.false, c.have_fixed_lengths.ensures);
  plain = ap (list_any is_any_prefix) (sym c.requires) ∙ sym c.have_prefix.ensures ∙ c.if-have_prefix.false;
  values = c.places_of-values.ensures;
  octets = sym c.place_of.ensures ∙ c.in_ok-octets.was;
  packets = sym c.place_of-2.ensures ∙ c.in_ok-packets.was;
  layout = λ octets.
      let places = c.places_of-values.result in
      c.layout_of-layout.ensures
      ∙ sym (layout_by-is (λ axis. found_at octets axis (get_or places (axis_index axis) None)) c.bits_of_places.result
      (λ axis. stands_at octets axis (get_or places (axis_index axis) None))
      (λ axis. c.bits_of_places.ensures axis octets));
}
