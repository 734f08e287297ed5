-- Names that refer to known entries.
use Rattle.std.specs.Prelude.{ℕ, List, [], Option, Some, None, not, IsSome}
use Rattle.fx_walk.specs.Pointer.{below}
use Rattle.fx_walk.specs.Walk.{FoundFault, fault_if}
use Rattle.fx_walk.specs.Lists.{is_among, items_faults, place_in}
use Rattle.fx_base.specs.Refusals.{unknown_name}

-- a name is one of the known names
abbrev pub IsKnown : List (List ℕ) → List ℕ → Type 0
IsKnown known name = IsSome (place_in known name)

-- the fault of a name that isn't among the known names
abbrev pub unknown : List (List ℕ) → List ℕ → List ℕ → List FoundFault
unknown known up name = fault_if (not (is_among known name)) unknown_name up

abbrev pub unknown_if_there : List (List ℕ) → List ℕ → Option (List ℕ) → List FoundFault
unknown_if_there known up None = []
unknown_if_there known up (Some name) = unknown known up name

-- the faults of a list's items, where the list is an object's member of this name
abbrev pub member_references : {X : Type 0} → (List ℕ → X → List FoundFault) → List ℕ → List ℕ → List X
    → List FoundFault
member_references faults up name xs = items_faults faults (below up name) 0 xs
