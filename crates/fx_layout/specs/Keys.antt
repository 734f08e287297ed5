-- Layouts, and the keys that packets have under them (RFC 7015, section 2: a flow key, and the coarser one of an
-- aggregated flow).
use Rattle.std.specs.Prelude.{◌≡◌, ℕ, suc, ◌-◌, ◌/◌, ◌^◌, ◌<◌, ◌≤◌, Bool, true, false, ◌&&◌, ◌||◌, ◌==◌, nat_le, nat_lt, if◌then◌else◌, List, [], ◌∷◌, map, bytes_eq, Option, Some, None}
use Rattle.std.specs.List.{list_all}
use Rattle.fx_elements.specs.declared.axis.Axis.{Axis}
use Rattle.fx_elements.specs.Axes.{Fields, field, axis_index, axis_width, is_address, same_axis}
use Rattle.fx_layout.specs.declared.layout.Part.{Part}

-- each axis at most once, in axis order
abbrev pub Layout : Type 0
Layout = List Part

pub record Key : Type 0 where
  pub layout : Layout
  pub values : List ℕ  -- one for each part of the layout

-- ---- layouts

-- the part for an axis
abbrev pub part_at : Layout → Axis → Option Part
part_at [] axis = None
part_at (part ∷ parts) axis = if same_axis part.axis axis then Some part else part_at parts axis

abbrev pub has_bits : Option Part → ℕ → Bool
has_bits None bits = false
has_bits (Some part) bits = nat_le bits part.bits

-- the layout has the axis with at least this number of bits
abbrev pub reads : Layout → Axis → ℕ → Bool
reads layout axis bits = has_bits (part_at layout axis) bits

-- every part of the other layout can be read from this layout
abbrev pub refines : Layout → Layout → Bool
refines layout other = list_all (λ part. reads layout part.axis part.bits) other

-- a part has all bits of an axis, or the leading bits of an address
abbrev pub can_stand : Part → Bool
can_stand part = nat_le 1 part.bits && (part.bits == axis_width part.axis ||
    (is_address part.axis && nat_le part.bits (axis_width part.axis)))

-- the layout with a part added, before the first part of a later axis
abbrev pub with_part : Layout → Part → Layout
with_part [] new = new ∷ []
with_part (part ∷ parts) new = if nat_lt (axis_index new.axis) (axis_index part.axis) then new ∷ part ∷ parts else part
    ∷ with_part parts new

-- no part has more bits than its axis
abbrev pub Fits : Layout → Type 0
Fits [] = Unit {0}
Fits (part ∷ parts) = (part.bits ≤ axis_width part.axis) × Fits parts

-- the axes are in order, each at most once, from this index on
abbrev pub AxesAscend : ℕ → Layout → Type 0
AxesAscend from [] = Unit {0}
AxesAscend from (part ∷ parts) = (from ≤ axis_index part.axis) × AxesAscend (suc (axis_index part.axis)) parts

-- the invariant of a layout
pub record IsLayout (layout : Layout) : Type 0 where
  pub stands : list_all can_stand layout ≡ true
  pub ascends : AxesAscend 0 layout

-- ---- keys

-- each value has the bits of its part
abbrev pub HasBits : Layout → List ℕ → Type 0
HasBits [] [] = Unit {0}
HasBits (part ∷ parts) (value ∷ values) = (value < 2 ^ part.bits) × HasBits parts values
HasBits [] (value ∷ values) = ⊥
HasBits (part ∷ parts) [] = ⊥

-- the leading bits of a value of this width
abbrev pub leading_bits : ℕ → ℕ → ℕ → ℕ
leading_bits width bits value = value / 2 ^ (width - bits)

abbrev pub key_of : Layout → Fields → Key
key_of layout fields = record {
  layout = layout;
  values = map (λ part. leading_bits (axis_width part.axis) part.bits (field fields part.axis)) layout;
}

-- the leading bits of the value for an axis
abbrev pub cut_in : Layout → List ℕ → Axis → ℕ → ℕ
cut_in (part ∷ parts) (value ∷ values) axis bits =
    if same_axis part.axis axis then leading_bits part.bits bits value else cut_in parts values axis bits
cut_in _ _ axis bits = 0

abbrev pub bits_on : Key → Axis → ℕ → ℕ
bits_on key axis bits = cut_in key.layout key.values axis bits

-- the key projected to a layout that its own layout refines
abbrev pub project : Key → Layout → Key
project key layout = record { layout = layout; values = map (λ part. bits_on key part.axis part.bits) layout }

abbrev pub same_layout : Layout → Layout → Bool
same_layout [] [] = true
same_layout (p ∷ ps) (q ∷ qs) = same_axis p.axis q.axis && p.bits == q.bits && same_layout ps qs
same_layout _ _ = false

abbrev pub same_key : Key → Key → Bool
same_key a b = same_layout a.layout b.layout && bytes_eq a.values b.values

-- a list of values comes before another, decided by the first value that differs
abbrev pub comes_before : List ℕ → List ℕ → Bool
comes_before [] [] = false
comes_before [] (w ∷ ws) = true
comes_before (v ∷ vs) [] = false
comes_before (v ∷ vs) (w ∷ ws) = nat_lt v w || (v == w && comes_before vs ws)
