-- Texts in a traffic declaration, where every text that isn't allowed is the same fault.
use Rattle.std.specs.Prelude.{ℕ, List, Bool}
use Rattle.serde_json.specs.Data.{Data}
use Rattle.fx_base.specs.Name.{is_name}
use Rattle.fx_base.specs.Refusals.{class_twice, traffic_value}
use Rattle.fx_walk.specs.Walk.{FoundFault}
use Rattle.fx_walk.specs.Lists as lists
use Rattle.fx_walk.specs.Scalars as scalars

-- a text that must pass a test
abbrev pub text_that : (List ℕ → Bool) → List ℕ → Data → List FoundFault
text_that = scalars.text_that traffic_value

abbrev pub name_faults : List ℕ → Data → List FoundFault
name_faults = text_that is_name

-- a name that differs from earlier ones
abbrev pub name_once : List (List ℕ) → List ℕ → Data → List FoundFault
name_once = lists.name_once_by traffic_value class_twice
