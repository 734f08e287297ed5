-- Collecting processes (RFC 6728, section 4.5).
use Rattle.std.specs.Prelude.{ℕ, List, [], ◌∷◌, codes, map}
use Rattle.serde_json.specs.Data.{Data}
use Rattle.fx_walk.specs.Walk.{FoundFault, Row, object_faults, required_row, unread, member_of}
use Rattle.fx_walk.specs.Choice.{none_of}
use Rattle.fx_walk.specs.Lists.{entries, items_of, name_once}
use Rattle.fx_walk.specs.Scalars.{text_of}
use Rattle.fx_config.specs.Aggregations.{aggregation_faults, aggregation_of}
use Rattle.fx_config.specs.Limits.{entry_limit}
use Rattle.fx_config.specs.declared.collecting_process.CollectingProcess.{CollectingProcess}
use Rattle.fx_base.specs.Refusals.{file_transport}

-- files are refused, and the collectors are not read
abbrev pub collecting_process_rows : List (List ℕ) → List Row
collecting_process_rows earlier =
    required_row (codes "name") (name_once earlier)
    ∷ none_of ((codes "fileReader", file_transport) ∷ [])
    ∷ unread (codes "tcpCollector" ∷ codes "sctpCollector" ∷ codes "udpCollector" ∷ [])
    ∷ entries 0 entry_limit (codes "exportingProcess") name_once text_of
    ∷ entries 0 entry_limit (codes "once-audit:aggregation") aggregation_faults (λ d. (aggregation_of d).name)
    ∷ []

abbrev pub collecting_process_faults : List (List ℕ) → List ℕ → Data → List FoundFault
collecting_process_faults earlier = object_faults (collecting_process_rows earlier)

abbrev pub collecting_process_of : Data → CollectingProcess
collecting_process_of d = record {
  name = text_of (member_of (codes "name") d);
  exporting_processes = map text_of (items_of (member_of (codes "exportingProcess") d));
  aggregations = map aggregation_of (items_of (member_of (codes "once-audit:aggregation") d));
}
