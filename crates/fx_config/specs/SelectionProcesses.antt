-- Selection processes (RFC 6728, section 4.2).
use Rattle.std.specs.Prelude.{ℕ, List, [], ◌∷◌, codes, map, option_map}
use Rattle.serde_json.specs.Data.{Data}
use Rattle.serde_json.specs.Find.{get}
use Rattle.fx_walk.specs.Walk.{FoundFault, Row, object_faults, required_row, optional, member_of}
use Rattle.fx_walk.specs.Lists.{entries, items_of, name_once}
use Rattle.fx_walk.specs.Scalars.{text_of, name_faults}
use Rattle.fx_config.specs.Selectors.{selector_faults, selector_of}
use Rattle.fx_config.specs.Limits.{selector_limit}
use Rattle.fx_config.specs.declared.selection_process.SelectionProcess.{SelectionProcess}

abbrev pub selection_process_rows : List (List ℕ) → List Row
selection_process_rows earlier =
    required_row (codes "name") (name_once earlier)
    ∷ entries 1 selector_limit (codes "selector") selector_faults (λ d. (selector_of d).name)
    ∷ optional (codes "cache") name_faults
    ∷ []

abbrev pub selection_process_faults : List (List ℕ) → List ℕ → Data → List FoundFault
selection_process_faults earlier = object_faults (selection_process_rows earlier)

abbrev pub selection_process_of : Data → SelectionProcess
selection_process_of d = record {
  name = text_of (member_of (codes "name") d);
  selectors = map selector_of (items_of (member_of (codes "selector") d));
  cache = option_map text_of (get (codes "cache") d);
}
