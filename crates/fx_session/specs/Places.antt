-- The places of flow values in the records of a template all of whose fields have fixed lengths.
use Rattle.std.specs.Prelude.{◌≡◌, ℕ, ◌+◌, ◌%◌, ◌^◌, ◌≤◌, ◌==◌, not, Bool, true, false, if◌then◌else◌, List, [], ◌∷◌, map, slice_index_or, slice_range, Option, Some, None, IfSome}
use Rattle.std.specs.List.{list_all, list_any}
use Rattle.fx_elements.specs.declared.axis.Axis.{Axis}
use Rattle.fx_elements.specs.declared.element.Element.{Element}
use Rattle.fx_elements.specs.declared.element.Element.TheVariants.{OnAxis, OctetDeltaCount, PacketDeltaCount, Prefix}
use Rattle.fx_elements.specs.Axes.{Fields, axis_index, axis_width}
use Rattle.fx_layout.specs.Keys.{key_of}
use Rattle.fx_tables.specs.declared.record.Record.{Record}
use Rattle.fx_wire.specs.Fields.{element_of}
use Rattle.fx_wire.specs.declared.field.FieldSpecifier.{FieldSpecifier}
use Rattle.fx_session.specs.declared.places.ValuePlace.{ValuePlace}
use Rattle.fx_session.specs.declared.places.RecordPlaces.{RecordPlaces}
use Rattle.fx_session.specs.Flows.{Found, fields_of, is_value, is_octets, is_packets, layout_of, number_in}

-- whether an element is the one sought
abbrev pub is_sought : Element → Element → Bool
is_sought (OnAxis axis) element = is_value axis element
is_sought OctetDeltaCount element = is_octets element
is_sought PacketDeltaCount element = is_packets element
is_sought _ element = false

abbrev pub is_any_prefix : Element → Bool
is_any_prefix (Prefix axis) = true
is_any_prefix _ = false

-- no field has variable length
abbrev pub have_fixed_lengths : List FieldSpecifier → Bool
have_fixed_lengths fields = list_all (λ f. not (f.field_length == 65535)) fields

-- the place of the first field whose element satisfies the predicate, if the first field begins at this octet of a
-- record
abbrev pub place_where : (Element → Bool) → ℕ → List FieldSpecifier → Option ValuePlace
place_where is at [] = None
place_where is at (f ∷ fs) =
    if is (element_of f) then Some (record { start = at; end = at + f.field_length }) else place_where is
    (at + f.field_length) fs

abbrev pub octets_of_place : ValuePlace → List ℕ → List ℕ
octets_of_place place octets = slice_range octets place.start place.end

-- what the octets of a record say about an axis
abbrev pub found_at : List ℕ → Axis → Option ValuePlace → Found
found_at octets axis (Some place) = Some (record
    { bits = axis_width axis; value = number_in (octets_of_place place octets) })
found_at octets axis None = None

abbrev pub place_on : RecordPlaces → Axis → Option ValuePlace
place_on places axis = slice_index_or places.values (axis_index axis) None

-- the value that a record gives on each axis, 0 if it gives none
abbrev pub fields_read : RecordPlaces → List ℕ → Fields
fields_read places octets = fields_of (λ axis. found_at octets axis (place_on places axis))

-- the flow record read at the places
abbrev pub record_by : RecordPlaces → List ℕ → Record
record_by places octets = record {
  key = key_of places.layout (fields_read places octets);
  counts = record {
    packets = number_in (octets_of_place places.packets octets) % 2 ^ 64;
    octets = number_in (octets_of_place places.octets octets) % 2 ^ 64;
  };
}

-- a place within this number of octets
abbrev pub IsPlaceIn : ℕ → ValuePlace → Type 0
IsPlaceIn n place = (place.start ≤ place.end) × (place.end ≤ n)

pub record ArePlacesIn (n : ℕ) (places : RecordPlaces) : Type 0 where
  pub values : (axis : Axis) → IfSome (place_on places axis) (IsPlaceIn n)
  pub octets : IsPlaceIn n places.octets
  pub packets : IsPlaceIn n places.packets

-- the places of the first fields that are read; no field has variable length and none is a prefix
pub record ArePlacesOf (fields : List FieldSpecifier) (places : RecordPlaces) : Type 0 where
  pub fixed : have_fixed_lengths fields ≡ true
  pub plain : list_any is_any_prefix (map element_of fields) ≡ false
  pub values : (axis : Axis) → place_on places axis ≡ place_where (is_value axis) 0 fields
  pub octets : place_where is_octets 0 fields ≡ Some places.octets
  pub packets : place_where is_packets 0 fields ≡ Some places.packets
  pub layout : (octets : List ℕ) → places.layout ≡ layout_of (λ axis. found_at octets axis (place_on places axis))
