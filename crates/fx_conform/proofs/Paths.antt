-- Each class of a declaration of traffic has a path.
use Rattle.std.proofs.Common.{◌≡◌, ℕ, zero, suc, ◌+◌, ◌<◌, ◌≤◌, nat_lt, Bool, true, false, cond, List, [], ◌∷◌, ◌++◌, length, map, drop, refl, ap, arith, Option, Some, None, All}
use Rattle.std.specs.Prelude.{codes}
use Rattle.std.specs.Option.{unwrap_or}
use Rattle.std.proofs.lemmas.Bool.Decides.{nat_tests}
use Rattle.std.proofs.lemmas.List.Elements.{All-nil, All-cons}
use Rattle.serde_json.specs.Data.{Data, Members, null}
use Rattle.serde_json.specs.Find.{get, as_object}
use Rattle.fx_walk.specs.Lists.{by_length, entries_faults, items_faults, items_in, items_of}
use Rattle.fx_walk.specs.Pointer.{below, nth}
use Rattle.fx_walk.specs.Walk.{FoundFault, Row, faults_or_missing, member_of, of_kind, others, row_faults}
use Rattle.fx_walk.proofs.Faults.{none_before, none_behind}
use Rattle.fx_tables.specs.Classes.{Class}
use Rattle.fx_traffic.specs.Classes.{class_faults, class_name, class_of, class_rows, list_of_classes_faults, paths_faults, traffic_faults, traffic_of, traffic_rows}
use Rattle.fx_traffic.specs.Crossings.{path_faults, path_of}
use Rattle.fx_traffic.specs.Limits.{class_limit, path_limit}
use Rattle.fx_traffic.specs.Lists.{list_faults}
use Rattle.fx_conform.specs.Whole.{DeclarationsHavePaths, HavePaths}

rows_none : (may : List ℕ → Bool) (rows : List Row) (up : List ℕ) (d : Data) (o : Option Members)
    → of_kind o (λ ms. others may up ms ++ row_faults rows up d) up ≡ [] → row_faults rows up d ≡ []
rows_none may rows up d None h = absurd cc
rows_none may rows up d (Some ms) h = none_behind (others may up ms) _ h

rows_behind : (n : ℕ) (rows : List Row) (up : List ℕ) (d : Data) → row_faults rows up d ≡ []
    → row_faults (drop n rows) up d ≡ []
rows_behind zero rows up d h = h
rows_behind (suc n) [] up d h = h
rows_behind (suc n) (row ∷ rows) up d h =
    rows_behind n rows up d (none_behind (row.faults up d) (row_faults rows up d) h)

-- ---- a list of at least one item

long_enough : (least most n : ℕ) (up : List ℕ) (rest : List FoundFault) → by_length 304 305 least most up n rest ≡ []
    → (least ≤ n) × (rest ≡ [])
long_enough least most n up rest h = by (nat_lt most n) (nat_lt n least) refl h where
  by : (many few : Bool) → nat_lt n least ≡ few → cond many ((305, up) ∷ []) (cond few ((304, up) ∷ []) rest) ≡ []
      → (least ≤ n) × (rest ≡ [])
  by true few e g = absurd cc
  by false true e g = absurd cc
  by false false e g = (grind (arith, nat_tests), g)

some_items : (least most : ℕ) (faults : List ℕ → List Data → List FoundFault) (up : List ℕ) (d : Data)
    → list_faults least most faults up d ≡ [] → (least ≤ length (items_of d)) × (faults up (items_of d) ≡ [])
some_items least most faults up d h = by (items_in d) h where
  by : (o : Option (List Data)) → of_kind o (λ ds. by_length 304 305 least most up (length ds) (faults up ds)) up ≡ []
      → (least ≤ length (unwrap_or o [])) × (faults up (unwrap_or o []) ≡ [])
  by None g = absurd cc
  by (Some ds) g = long_enough least most (length ds) up (faults up ds) g

map_length : {A B : Type 0} (f : A → B) (xs : List A) → length (map f xs) ≡ length xs
map_length f [] = refl
map_length f (x ∷ xs) = ap suc (map_length f xs)

-- ---- a class, and all of them

module _ (devices : List (List ℕ)) where
  abbrev HasPath : Data → Type 0
  HasPath d = 0 < length (class_of devices d).paths

  path_there : (up name : List ℕ) (o : Option Data) → faults_or_missing (paths_faults devices) up name o ≡ [] → 1
      ≤ length (items_of (unwrap_or o null))
  path_there up name None h = absurd cc
  path_there up name (Some e) h = (some_items 1 path_limit (λ up ds. items_faults (path_faults devices) up 0 ds)
      (below up name) e h).0

  class_has : (earlier : List (List ℕ)) (up : List ℕ) (d : Data) → class_faults devices earlier up d ≡ [] → HasPath d
  class_has earlier up d h =
      let rows = rows_none _ (class_rows devices earlier) up d (as_object d) h in
      let own = none_before _ _ (rows_behind 2 (class_rows devices earlier) up d rows) in
      let some = path_there up (codes "paths") (get (codes "paths") d) own in
      let long = map_length (path_of devices) (items_of (member_of (codes "paths") d)) in
      omega (arith, some, long)

  entries_have : (earlier : List (List ℕ)) (up : List ℕ) (i : ℕ) (ds : List Data)
      → entries_faults (class_faults devices) class_name earlier up i ds ≡ []
      → All (λ (c : Class). 0 < length c.paths) (map (class_of devices) ds)
  entries_have earlier up i [] h = All-nil (λ (c : Class). 0 < length c.paths)
  entries_have earlier up i (d ∷ ds) h =
      All-cons (λ (c : Class). 0 < length c.paths) (class_of devices d) (map (class_of devices) ds)
      (class_has earlier (nth up i) d (none_before _ _ h))
      (entries_have (earlier ++ class_name d ∷ []) up (i + 1) ds (none_behind _ _ h))

  classes_there : (up name : List ℕ) (o : Option Data) → faults_or_missing (list_of_classes_faults devices) up name o
      ≡ [] → HavePaths (map (class_of devices) (items_of (unwrap_or o null)))
  classes_there up name None h = absurd cc
  classes_there up name (Some e) h =
      entries_have [] (below up name) 0 (items_of e)
      (some_items 0 class_limit (λ up ds. entries_faults (class_faults devices) class_name [] up 0 ds)
      (below up name) e h).1

pub declarations_have_paths : DeclarationsHavePaths
unfolding traffic_faults traffic_of
declarations_have_paths devices up d h =
    classes_there devices up (codes "classes") (get (codes "classes") d)
    (none_before _ [] (rows_none _ (traffic_rows devices) up d (as_object d) h))
