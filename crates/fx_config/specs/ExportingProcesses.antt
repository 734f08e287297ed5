-- Exporting processes (RFC 6728, section 4.4).
use Rattle.std.specs.Prelude.{ℕ, List, [], ◌∷◌, codes, map, ◌||◌, Option, Some, None, if◌then◌else◌}
use Rattle.std.specs.Str.{bytes_eq}
use Rattle.serde_json.specs.Data.{Data}
use Rattle.serde_json.specs.Find.{get}
use Rattle.fx_walk.specs.Walk.{FoundFault, Row, object_faults, required_row, optional, unread, member_of}
use Rattle.fx_walk.specs.Lists.{entries, items_of, name_once}
use Rattle.fx_walk.specs.Scalars.{text_of, word_faults, word_given}
use Rattle.fx_config.specs.Destinations.{destination_faults, destination_of}
use Rattle.fx_config.specs.Limits.{entry_limit}
use Rattle.fx_config.specs.declared.exporting_process.ExportingProcess.{ExportingProcess}
use Rattle.fx_config.specs.declared.exporting_process.ExportMode.{ExportMode}
use Rattle.fx_config.specs.declared.exporting_process.ExportMode.TheVariants.{Parallel, LoadBalancing, Fallback}

-- ---- modes: identities of the module, optionally with its prefix

abbrev pub export_mode_named : List ℕ → Option ExportMode
export_mode_named name =
    if bytes_eq name (codes "parallel") || bytes_eq name (codes "ietf-ipfix-psamp:parallel") then Some Parallel else
    (if bytes_eq name (codes "loadBalancing") || bytes_eq name (codes "ietf-ipfix-psamp:loadBalancing")
    then Some LoadBalancing else
    (if bytes_eq name (codes "fallback") || bytes_eq name (codes "ietf-ipfix-psamp:fallback") then Some Fallback
    else None))

-- ---- exporting processes, whose options are not read

abbrev pub exporting_process_rows : List (List ℕ) → List Row
exporting_process_rows earlier =
    required_row (codes "name") (name_once earlier)
    ∷ optional (codes "exportMode") (word_faults export_mode_named)
    ∷ entries 1 entry_limit (codes "destination") destination_faults (λ d. (destination_of d).name)
    ∷ unread (codes "options" ∷ [])
    ∷ []

abbrev pub exporting_process_faults : List (List ℕ) → List ℕ → Data → List FoundFault
exporting_process_faults earlier = object_faults (exporting_process_rows earlier)

abbrev pub exporting_process_of : Data → ExportingProcess
exporting_process_of d = record {
  name = text_of (member_of (codes "name") d);
  mode = word_given export_mode_named Parallel (get (codes "exportMode") d);
  destinations = map destination_of (items_of (member_of (codes "destination") d));
}
