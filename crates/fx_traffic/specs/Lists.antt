-- Lists in a declaration of traffic.
use Rattle.std.specs.Prelude.{ℕ, List}
use Rattle.serde_json.specs.Data.{Data}
use Rattle.fx_walk.specs.Walk.{FoundFault}
use Rattle.fx_walk.specs.Lists as lists
use Rattle.fx_base.specs.Refusals.{no_path, too_much_traffic}

-- a list of `least` to `most` items
abbrev pub list_faults : ℕ → ℕ → (List ℕ → List Data → List FoundFault) → List ℕ → Data → List FoundFault
list_faults = lists.list_faults_by no_path too_much_traffic
