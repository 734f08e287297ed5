-- The report: the collecting process whose totals are requested, and their key.
use Rattle.std.specs.Prelude.{ℕ, List, [], ◌∷◌, Bool, not, codes, map, Option, Some, is_some, option_and_then, take}
use Rattle.serde_json.specs.Data.{Data}
use Rattle.fx_layout.specs.Keys.{Layout}
use Rattle.fx_walk.specs.Walk.{FoundFault, Row, object_faults, required_row, then_check, fault_if, member_of}
use Rattle.fx_walk.specs.Scalars.{name_faults, text_of}
use Rattle.fx_walk.specs.Lists.{items_of}
use Rattle.fx_config.specs.KeyFields.{key_field_faults, key_field_of}
use Rattle.fx_config.specs.Keys.{with_field}
use Rattle.fx_config.specs.declared.key_field.KeyField.{KeyField}
use Rattle.fx_topology.specs.Limits.{key_field_limit}
use Rattle.fx_topology.specs.declared.report.Report.{Report}
use Rattle.fx_topology.specs.declared.network_device.NetworkDevice.{NetworkDevice}
use Rattle.fx_walk.specs.RequiredLists.{required_items}
use Rattle.fx_topology.specs.Links.{device_named, has_collecting_process}
use Rattle.fx_base.specs.Refusals.{report_key, unknown_report_process}

-- ---- its key

-- a layout with further fields; none if a field has no meaning, or if its axis is in the layout already
abbrev pub with_fields : Layout → List KeyField → Option Layout
with_fields layout [] = Some layout
with_fields layout (field ∷ fields) = option_and_then (λ more. with_fields more fields) (with_field layout field)

abbrev pub key_layout : List KeyField → Option Layout
key_layout fields = with_fields [] fields

-- ---- the report

abbrev pub report_of : Data → Report
report_of d = record {
  device = text_of (member_of (codes "device") d);
  collecting_process = text_of (member_of (codes "collectingProcess") d);
  key = map key_field_of (items_of (member_of (codes "key") d));
}

-- the collecting process that the report names exists
abbrev pub has_place : List NetworkDevice → Report → Bool
has_place devices report = has_collecting_process report.collecting_process (device_named devices report.device)

abbrev pub report_rows : List NetworkDevice → List Row
report_rows devices =
    required_row (codes "device") name_faults
    ∷ required_row (codes "collectingProcess") name_faults
    ∷ required_items key_field_limit (codes "key") key_field_faults
    ∷ then_check (λ up d. fault_if (not (has_place devices (report_of d))) unknown_report_process up)
    ∷ then_check (λ up d. fault_if (not (is_some (key_layout (report_of d).key))) report_key up)
    ∷ []

-- the members of a report
abbrev pub member_rows : List Row
member_rows = take 3 (report_rows [])

abbrev pub report_faults : List NetworkDevice → List ℕ → Data → List FoundFault
report_faults devices = object_faults (report_rows devices)
