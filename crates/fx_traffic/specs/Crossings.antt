-- Crossings, and the paths that packets take.
use Rattle.std.specs.Prelude.{ℕ, suc, List, [], ◌∷◌, ◌++◌, codes, map, Bool, true, false, not, if◌then◌else◌, Option, Some, None, is_some, option_map}
use Rattle.std.specs.Option.{unwrap_or}
use Rattle.std.specs.Str.{bytes_eq}
use Rattle.serde_json.specs.Data.{Data}
use Rattle.fx_walk.specs.Walk.{FoundFault, Row, object_faults, required_row, member_of, fault_if}
use Rattle.fx_walk.specs.Lists.{items_faults, items_of, place_in}
use Rattle.fx_walk.specs.Scalars.{text_of}
use Rattle.fx_tables.specs.declared.traffic.Crossing.{Crossing}
use Rattle.fx_traffic.specs.Texts.{text_that, name_faults}
use Rattle.fx_traffic.specs.Lists.{list_faults}
use Rattle.fx_traffic.specs.Limits.{crossing_limit}
use Rattle.fx_base.specs.Refusals.{unknown_device}

-- ---- a crossing's members

-- the number, from 1, of the first device with this name
abbrev pub number_in : List (List ℕ) → List ℕ → Option ℕ
number_in devices name = option_map (λ place. suc place) (place_in devices name)

-- a value that is the name of one of the devices
abbrev pub device_faults : List (List ℕ) → List ℕ → Data → List FoundFault
device_faults devices up d = name_faults up d
    ++ fault_if (not (is_some (number_in devices (text_of d)))) unknown_device up

abbrev pub number_of : List (List ℕ) → Data → ℕ
number_of devices d = unwrap_or (number_in devices (text_of d)) 0

-- whether a packet comes into the device
abbrev pub inwards_in : List ℕ → Option Bool
inwards_in text = if bytes_eq text (codes "ingress") then Some true
    else (if bytes_eq text (codes "egress") then Some false else None)

abbrev pub direction_faults : List ℕ → Data → List FoundFault
direction_faults = text_that (λ text. is_some (inwards_in text))

abbrev pub inwards_of : Data → Bool
inwards_of d = unwrap_or (inwards_in (text_of d)) false

-- ---- crossings

abbrev pub crossing_rows : List (List ℕ) → List Row
crossing_rows devices =
    required_row (codes "device") (device_faults devices)
    ∷ required_row (codes "interface") name_faults
    ∷ required_row (codes "direction") direction_faults
    ∷ []

abbrev pub crossing_faults : List (List ℕ) → List ℕ → Data → List FoundFault
crossing_faults devices = object_faults (crossing_rows devices)

abbrev pub crossing_of : List (List ℕ) → Data → Crossing
crossing_of devices d = record {
  device = number_of devices (member_of (codes "device") d);
  interface = text_of (member_of (codes "interface") d);
  inwards = inwards_of (member_of (codes "direction") d);
}

-- ---- paths

abbrev pub path_faults : List (List ℕ) → List ℕ → Data → List FoundFault
path_faults devices = list_faults 0 crossing_limit (λ up ds. items_faults (crossing_faults devices) up 0 ds)

abbrev pub path_of : List (List ℕ) → Data → List Crossing
path_of devices d = map (crossing_of devices) (items_of d)
