-- Keys to which records are aggregated (RFC 7015): parts of axes.
use Rattle.std.specs.Prelude.{ℕ, ◌+◌, List, [], ◌∷◌, ◌++◌, codes, not, ◌&&◌, Option, Some, None, is_some, option_and_then, if◌then◌else◌}
use Rattle.std.specs.Option.{unwrap_or}
use Rattle.serde_json.specs.Data.{Data}
use Rattle.fx_walk.specs.Pointer.{nth}
use Rattle.fx_walk.specs.Walk.{FoundFault, Row, fault_if}
use Rattle.fx_walk.specs.Lists.{list_row}
use Rattle.fx_config.specs.KeyFields.{key_field_faults, key_field_of, part_of}
use Rattle.fx_config.specs.Limits.{field_limit}
use Rattle.fx_config.specs.declared.key_field.KeyField.{KeyField}
use Rattle.fx_layout.specs.declared.layout.Part.{Part}
use Rattle.fx_layout.specs.Keys.{Layout, can_stand, part_at, with_part}
use Rattle.fx_base.specs.Refusals.{bad_value}

-- the layout with a part added, if the axis can have this number of bits and isn't in the layout yet
abbrev pub with_new : Layout → Part → Option Layout
with_new layout part = if can_stand part && not (is_some (part_at layout part.axis)) then Some (with_part layout part)
    else None

-- the layout with the part of a field added
abbrev pub with_field : Layout → KeyField → Option Layout
with_field layout field = option_and_then (with_new layout) (part_of field)

-- the fault of a field that denotes no part, or whose axis is already in the layout
abbrev pub field_check : Layout → KeyField → List ℕ → List FoundFault
field_check layout field up = fault_if (not (is_some (with_field layout field))) bad_value up

abbrev pub add_field : Layout → KeyField → Layout
add_field layout field = unwrap_or (with_field layout field) layout

-- the faults of the fields from the i-th on, after the fields that make this layout
abbrev pub fields_faults : Layout → List ℕ → ℕ → List Data → List FoundFault
fields_faults layout up i [] = []
fields_faults layout up i (d ∷ ds) =
    key_field_faults (nth up i) d
    ++ (field_check layout (key_field_of d) (nth up i)
    ++ fields_faults (add_field layout (key_field_of d)) up (i + 1) ds)

abbrev pub with_fields : Layout → List Data → Layout
with_fields layout [] = layout
with_fields layout (d ∷ ds) = with_fields (add_field layout (key_field_of d)) ds

abbrev pub key_row : Row
key_row = list_row 0 field_limit (codes "key") (λ up ds. fields_faults [] up 0 ds)
