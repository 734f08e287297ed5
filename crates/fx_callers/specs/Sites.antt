-- Sites: an example of documents that a caller defines.
use Rattle.std.specs.Prelude.{ℕ, List, [], ◌∷◌, codes, map}
use Rattle.serde_json.specs.Data.{Data}
use Rattle.fx_walk.specs.Walk.{FoundFault, Row, object_faults, required_row, member_of}
use Rattle.fx_walk.specs.Scalars.{name_faults, text_of}
use Rattle.fx_walk.specs.Lists.{items, items_of}
use Rattle.fx_callers.specs.declared.documents.Site.{Site}

-- a name, and at most 64 names of racks
abbrev pub site_rows : List Row
site_rows = required_row (codes "name") name_faults ∷ items 0 64 (codes "rack") name_faults ∷ []

abbrev pub site_faults : List ℕ → Data → List FoundFault
site_faults = object_faults site_rows

abbrev pub site_of : Data → Site
site_of d = record {
  name = text_of (member_of (codes "name") d);
  racks = map text_of (items_of (member_of (codes "rack") d));
}
