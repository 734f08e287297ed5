-- A declaration of traffic: the classes of the packets that cross a network.
use Rattle.std.specs.Prelude.{ℕ, List, [], ◌∷◌, codes, map, not, is_some}
use Rattle.serde_json.specs.Data.{Data}
use Rattle.serde_json.specs.Find.{get}
use Rattle.fx_walk.specs.Walk.{FoundFault, Row, fault_if, object_faults, required_row, optional, member_of}
use Rattle.fx_walk.specs.Lists.{entries_faults, items_faults, items_of}
use Rattle.fx_walk.specs.Scalars.{text_of, is_empty_type}
use Rattle.fx_tables.specs.Classes.{Class}
use Rattle.fx_traffic.specs.Texts.{name_once}
use Rattle.fx_traffic.specs.Lists.{list_faults}
use Rattle.fx_traffic.specs.Regions.{region_faults, region_given}
use Rattle.fx_traffic.specs.Crossings.{path_faults, path_of}
use Rattle.fx_traffic.specs.Limits.{class_limit, path_limit}
use Rattle.fx_base.specs.Refusals.{traffic_value}

-- ---- a class, in a network whose devices have these names

abbrev pub paths_faults : List (List ℕ) → List ℕ → Data → List FoundFault
paths_faults devices = list_faults 1 path_limit (λ up ds. items_faults (path_faults devices) up 0 ds)

-- an empty type: its presence says that the class is exempt
abbrev pub exempt_faults : List ℕ → Data → List FoundFault
exempt_faults up d = fault_if (not (is_empty_type d)) traffic_value up

abbrev pub class_rows : List (List ℕ) → List (List ℕ) → List Row
class_rows devices earlier =
    required_row (codes "name") (name_once earlier)
    ∷ optional (codes "region") region_faults
    ∷ required_row (codes "paths") (paths_faults devices)
    ∷ optional (codes "exempt") exempt_faults
    ∷ []

abbrev pub class_faults : List (List ℕ) → List (List ℕ) → List ℕ → Data → List FoundFault
class_faults devices earlier = object_faults (class_rows devices earlier)

abbrev pub class_name : Data → List ℕ
class_name d = text_of (member_of (codes "name") d)

abbrev pub class_of : List (List ℕ) → Data → Class
class_of devices d = record {
  region = region_given (get (codes "region") d);
  paths = map (path_of devices) (items_of (member_of (codes "paths") d));
  exempt = is_some (get (codes "exempt") d);
}

-- ---- the document; crates above use only these three functions

-- the faults of a list of classes, which may hold at most `most` of them
abbrev pub classes_faults_within : ℕ → List (List ℕ) → List ℕ → Data → List FoundFault
classes_faults_within most devices = list_faults 0 most
    (λ up ds. entries_faults (class_faults devices) class_name [] up 0 ds)

abbrev pub list_of_classes_faults : List (List ℕ) → List ℕ → Data → List FoundFault
list_of_classes_faults = classes_faults_within class_limit

abbrev pub traffic_rows_within : ℕ → List (List ℕ) → List Row
traffic_rows_within most devices =
    required_row (codes "classes") (classes_faults_within most devices)
    ∷ []

abbrev pub traffic_rows : List (List ℕ) → List Row
traffic_rows = traffic_rows_within class_limit

-- the faults of a declaration, which may hold at most `most` classes
unfoldable pub traffic_faults_within : ℕ → List (List ℕ) → List ℕ → Data → List FoundFault
traffic_faults_within most devices up d = object_faults (traffic_rows_within most devices) up d

unfoldable pub traffic_faults : List (List ℕ) → List ℕ → Data → List FoundFault
traffic_faults devices up d = object_faults (traffic_rows devices) up d

unfoldable pub traffic_of : List (List ℕ) → Data → List Class
traffic_of devices d = map (class_of devices) (items_of (member_of (codes "classes") d))
