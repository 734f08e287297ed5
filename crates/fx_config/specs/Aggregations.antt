-- Aggregations of collecting processes (RFC 7015): an augmentation of the module.
use Rattle.std.specs.Prelude.{ℕ, List, [], ◌∷◌, codes, map}
use Rattle.serde_json.specs.Data.{Data}
use Rattle.fx_walk.specs.Walk.{FoundFault, Row, object_faults, required_row, member_of}
use Rattle.fx_walk.specs.Lists.{entries, items, items_of, name_once}
use Rattle.fx_walk.specs.Scalars.{text_of}
use Rattle.fx_config.specs.PropertyMatches.{property_match_faults, property_match_of}
use Rattle.fx_config.specs.Keys.{key_row, with_fields}
use Rattle.fx_config.specs.Limits.{entry_limit}
use Rattle.fx_config.specs.declared.aggregation.Aggregation.{Aggregation}

abbrev pub aggregation_rows : List (List ℕ) → List Row
aggregation_rows earlier =
    required_row (codes "name") (name_once earlier)
    ∷ key_row
    ∷ items 0 entry_limit (codes "match") property_match_faults
    ∷ entries 0 entry_limit (codes "exportingProcess") name_once text_of
    ∷ []

abbrev pub aggregation_faults : List (List ℕ) → List ℕ → Data → List FoundFault
aggregation_faults earlier = object_faults (aggregation_rows earlier)

abbrev pub aggregation_of : Data → Aggregation
aggregation_of d = record {
  name = text_of (member_of (codes "name") d);
  key = with_fields [] (items_of (member_of (codes "key") d));
  matches = map property_match_of (items_of (member_of (codes "match") d));
  exporting_processes = map text_of (items_of (member_of (codes "exportingProcess") d));
}
