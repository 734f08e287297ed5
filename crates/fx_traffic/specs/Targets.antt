-- What a certificate must show: a tree for each path of each class.
use Rattle.std.specs.Prelude.{ℕ, ◌+◌, Bool, List, [], ◌∷◌, ◌++◌}
use Rattle.std.specs.List.{AllByRecursion}
use Rattle.fx_boxes.specs.Boxes.{Bounds, IsRegion}
use Rattle.fx_tables.specs.declared.traffic.Crossing.{Crossing}
use Rattle.fx_tables.specs.Classes.{Class}

-- a path of a class: the numbers of both, the class's region, the crossings of the path, and whether the class is
-- exempt
pub record Target : Type 0 where
  pub class : ℕ
  pub path : ℕ
  pub region : Bounds
  pub crossings : List Crossing
  pub exempt : Bool

-- the targets of a class's paths, the first of which has the number m
abbrev pub targets_along : ℕ → Bounds → Bool → ℕ → List (List Crossing) → List Target
targets_along class region exempt m [] = []
targets_along class region exempt m (path ∷ paths) =
    record { class = class; path = m; region = region; crossings = path; exempt = exempt }
    ∷ targets_along class region exempt (m + 1) paths

-- the targets of classes, the first of which has the number c
abbrev pub targets_from : ℕ → List Class → List Target
targets_from c [] = []
targets_from c (class ∷ classes) = targets_along c class.region class.exempt 1 class.paths
    ++ targets_from (c + 1) classes

-- the targets of all classes, in order, numbered from 1
abbrev pub targets_of : List Class → List Target
targets_of classes = targets_from 1 classes

-- the region of each target is well-formed
abbrev pub AreRegions : List Target → Type 0
AreRegions ts = AllByRecursion (λ t. IsRegion t.region) ts
