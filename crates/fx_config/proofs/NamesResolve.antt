-- A device without a fault names nothing that isn't there.
use Rattle.std.proofs.Common.{◌≡◌, ℕ, zero, suc, ◌+◌, ◌<◌, List, [], ◌∷◌, ◌++◌, length, map, Bool, true, false, not, ◌||◌, cond, Option, Some, None, refl, arith, drop, Result, Ok, Err, codes}
use Rattle.std.proofs.lemmas.Bool.{lt-ltb}
use Rattle.std.specs.List.{All, list_any, position_or_len}
use Rattle.std.specs.Option.{IfSome, unwrap_or}
use Rattle.std.specs.Result.{IfOk}
use Rattle.std.specs.Str.{bytes_eq}
use Rattle.serde_json.specs.Data.{Data, null, Members}
use Rattle.serde_json.specs.Find.{get, as_object}
use Rattle.fx_base.specs.declared.fault.Fault.{Fault}
use Rattle.fx_walk.specs.Pointer.{below, nth}
use Rattle.fx_walk.specs.Walk.{FoundFault, Row, Reads, fault_if, row_faults, of_kind, others, faults_or_missing}
use Rattle.fx_config.specs.Devices.{ipfix_rows, ipfix_faults, lists_of, device_rows, device_faults, device_of}
use Rattle.fx_walk.specs.Lists.{items_faults, is_among}
use Rattle.fx_walk.specs.KnownNames.{unknown, unknown_if_there, IsKnown}
use Rattle.fx_config.specs.References.{reference_faults, point_references, process_references, cache_references, collecting_references, aggregation_references, Resolves}
use Rattle.fx_walk.proofs.Faults.{none_before, none_behind}
use Rattle.fx_config.specs.declared.ipfix.Device.{Device}

-- what each item has that has no fault, all items have
items_all : {X : Type 0} (faults : List ℕ → X → List FoundFault) (P : X → Type 0)
    → ((up : List ℕ) (x : X) → faults up x ≡ [] → P x) → (up : List ℕ) (i : ℕ) (xs : List X)
    → items_faults faults up i xs ≡ [] → All P xs
items_all faults P each up i [] h k d lt = absurd (omega arith)
items_all faults P each up i (x ∷ xs) h zero d lt = each (nth up i) x (none_before _ _ h)
items_all faults P each up i (x ∷ xs) h (suc k) d lt =
    items_all faults P each up (i + 1) xs (none_behind _ _ h) k d (omega arith)

found_step : (b : Bool) (n m : ℕ) (rest : Bool) → (b || rest) ≡ true → (rest ≡ true → n < m) → cond (not b) (1 + n) 0
    < suc m
found_step true n m rest h next = omega arith
found_step false n m rest h next = let lt : n < m = next h in omega arith

found_within : (p : List ℕ → Bool) (names : List (List ℕ)) → list_any p names ≡ true → position_or_len p names
    < length names
found_within p [] h = absurd cc
found_within p (n ∷ names) h = found_step (p n) (position_or_len p names) (length names) (list_any p names) h
    (found_within p names)

among_known : (known : List (List ℕ)) (name : List ℕ) → is_among known name ≡ true → IsKnown known name
among_known known name h = rw (lt-ltb _ _ (found_within (λ n. bytes_eq n name) known h)) refl

unless_fault : (b : Bool) (n : ℕ) (up : List ℕ) → fault_if (not b) n up ≡ [] → b ≡ true
unless_fault true n up h = refl
unless_fault false n up h = absurd cc

known_where_none : (known : List (List ℕ)) (up name : List ℕ) → unknown known up name ≡ [] → IsKnown known name
known_where_none known up name h = among_known known name (unless_fault (is_among known name) 107 up h)

known_if_there : (known : List (List ℕ)) (up : List ℕ) (name : Option (List ℕ)) → unknown_if_there known up name ≡ []
    → IfSome name (IsKnown known)
known_if_there known up None h = tt
known_if_there known up (Some name) h = known_where_none known up name h

names_known : (known : List (List ℕ)) (up : List ℕ) (names : List (List ℕ)) → items_faults (unknown known) up 0 names
    ≡ [] → All (IsKnown known) names
names_known known up names none = items_all (unknown known) _ (known_where_none known) up 0 names none

pub resolves : (up : List ℕ) (device : Device) → reference_faults up device ≡ [] → Resolves device
resolves up device h =
    let points = none_before _ _ h in
    let rest = none_behind _ _ h in
    let last = none_behind _ _ rest in
    let selecting = map (λ x. x.name) device.selection_processes in
    let caches = map (λ x. x.name) device.caches in
    let exporting = map (λ x. x.name) device.exporting_processes in
    record {
      points = items_all (point_references selecting) _
          (λ up point none. names_known selecting _ point.selection_processes none) _ 0 device.observation_points
          points;
      processes = items_all (process_references caches) _
          (λ up process none. known_if_there caches _ process.cache none) _ 0 device.selection_processes
          (none_before _ _ rest);
      caches = items_all (cache_references exporting) _
          (λ up cache none. names_known exporting _ cache.exporting_processes none) _ 0 device.caches
          (none_before _ _ last);
      collecting = items_all (collecting_references exporting) _
          (λ up process none. names_known exporting _ process.exporting_processes (none_before _ _ none)) _ 0
          device.collecting_processes (none_behind _ _ last);
      aggregations = items_all (collecting_references exporting) _
          (λ up process none. items_all (aggregation_references exporting) _
          (λ up aggregation known. names_known exporting _ aggregation.exporting_processes known) _ 0
          process.aggregations (none_behind _ _ none)) _ 0 device.collecting_processes (none_behind _ _ last);
    }

rows_none : (may : List ℕ → Bool) (rows : List Row) (up : List ℕ) (d : Data) (o : Option Members)
    → of_kind o (λ ms. others may up ms ++ row_faults rows up d) up ≡ [] → row_faults rows up d ≡ []
rows_none may rows up d None h = absurd cc
rows_none may rows up d (Some ms) h = none_behind (others may up ms) _ h

rows_behind : (n : ℕ) (rows : List Row) (up : List ℕ) (d : Data) → row_faults rows up d ≡ []
    → row_faults (drop n rows) up d ≡ []
rows_behind zero rows up d h = h
rows_behind (suc n) [] up d h = h
rows_behind (suc n) (row ∷ rows) up d h =
    rows_behind n rows up d (none_behind (row.faults up d) (row_faults rows up d) h)

ipfix_resolves : (up : List ℕ) (d : Data) → ipfix_faults up d ≡ [] → Resolves (lists_of d)
ipfix_resolves up d h =
    let rows = rows_none _ ipfix_rows up d (as_object d) h in
    resolves up (lists_of d) (none_before (reference_faults up (lists_of d)) [] (rows_behind 5 ipfix_rows up d rows))

there : (up name : List ℕ) (o : Option Data) → faults_or_missing ipfix_faults up name o ≡ []
    → Resolves (lists_of (unwrap_or o null))
there up name None h = absurd cc
there up name (Some e) h = ipfix_resolves (below up name) e h

-- for readers of documents that have devices in them
pub device_resolves : (up : List ℕ) (d : Data) → device_faults up d ≡ [] → Resolves (device_of d)
unfolding device_faults device_of
device_resolves up d h = there up (codes "ietf-ipfix-psamp:ipfix") (get (codes "ietf-ipfix-psamp:ipfix") d)
    (none_before _ [] (rows_none _ device_rows up d (as_object d) h))

pub answer_resolves : (r : Result Device Fault) (d : Data) → Reads (device_faults [] d) (device_of d) r
    → IfOk r Resolves
answer_resolves (Ok x) d h = rw h.1 (device_resolves [] d h.0)
answer_resolves (Err e) d h = tt
