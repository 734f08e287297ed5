-- Lists in documents.
use Rattle.std.specs.Prelude.{◌≡◌, ℕ, ◌+◌, List, [], ◌∷◌, ◌++◌, Bool, nat_lt, if◌then◌else◌, length, map, Option, Some, None, Result, Ok, Err, String}
use Rattle.std.specs.List.{list_any, position}
use Rattle.std.specs.BTreeMap.{BTreeMap, get_by_text}
use Rattle.std.specs.Option.{unwrap_or}
use Rattle.std.specs.Str.{bytes_eq}
use Rattle.std.specs.Borrow.{Bor}
use Rattle.serde_json.specs.Data.{Data, array, Items, no_items, item}
use Rattle.serde_json.specs.Find.{get}
use Rattle.serde_json.specs.View.{view}
use Rattle.serde_json.specs.declared.value.Value.{Value}
use Rattle.fx_base.specs.declared.fault.Fault.{Fault}
use Rattle.fx_walk.specs.Pointer.{below, nth}
use Rattle.fx_walk.specs.Walk.{FoundFault, Row, Refuses, of_kind, fault_if, member_of}
use Rattle.fx_walk.specs.Scalars.{text_of, text_that}
use Rattle.fx_base.specs.Name.{is_name}
use Rattle.fx_base.specs.Refusals.{bad_value, missing_member, name_twice, too_many_entries}

abbrev pub list_of : Items → List Data
list_of no_items = []
list_of (item d ds) = d ∷ list_of ds

abbrev pub items_in : Data → Option (List Data)
items_in (array ds) = Some (list_of ds)
items_in _ = None

-- the items of a list; another value has none
abbrev pub items_of : Data → List Data
items_of d = unwrap_or (items_in d) []

-- ---- faults

-- too many items, too few, or the faults of the items; the first two have these numbers
abbrev pub by_length : ℕ → ℕ → ℕ → ℕ → List ℕ → ℕ → List FoundFault → List FoundFault
by_length few many least most up n rest = if nat_lt most n then (many, up)
    ∷ [] else (if nat_lt n least then (few, up) ∷ [] else rest)

abbrev pub list_faults_by : ℕ → ℕ → ℕ → ℕ → (List ℕ → List Data → List FoundFault) → List ℕ → Data → List FoundFault
list_faults_by few many least most faults up d =
    of_kind (items_in d) (λ ds. by_length few many least most up (length ds) (faults up ds)) up

abbrev pub list_faults : ℕ → ℕ → (List ℕ → List Data → List FoundFault) → List ℕ → Data → List FoundFault
list_faults = list_faults_by missing_member too_many_entries

abbrev pub faults_of_list : ℕ → ℕ → (List ℕ → List Data → List FoundFault) → List ℕ → List ℕ → Option Data
    → List FoundFault
faults_of_list least most faults up name None = fault_if (nat_lt 0 least) missing_member up
faults_of_list least most faults up name (Some d) = list_faults least most faults (below up name) d

-- A member that is a list of `least` to `most` items. If it may be empty, it may be left out, with the same meaning.
abbrev pub list_row : ℕ → ℕ → List ℕ → (List ℕ → List Data → List FoundFault) → Row
list_row least most name faults = record {
  names = name ∷ [];
  faults =
      λ up d. faults_of_list least most faults up name (get name d);
}

-- the faults of the items from index i on
abbrev pub items_faults : {X : Type 0} → (List ℕ → X → List FoundFault) → List ℕ → ℕ → List X → List FoundFault
items_faults faults up i [] = []
items_faults faults up i (x ∷ xs) = faults (nth up i) x ++ items_faults faults up (i + 1) xs

abbrev pub items : ℕ → ℕ → List ℕ → (List ℕ → Data → List FoundFault) → Row
items least most name faults = list_row least most name (λ up ds. items_faults faults up 0 ds)

-- ---- lists whose entries have distinct names

-- the faults of the entries from index i on, after entries with these names
abbrev pub entries_faults : (List (List ℕ) → List ℕ → Data → List FoundFault) → (Data → List ℕ) → List (List ℕ) → List ℕ
    → ℕ → List Data → List FoundFault
entries_faults faults name earlier up i [] = []
entries_faults faults name earlier up i (d ∷ ds) = faults earlier (nth up i) d
    ++ entries_faults faults name (earlier ++ name d ∷ []) up (i + 1) ds

abbrev pub entries : ℕ → ℕ → List ℕ → (List (List ℕ) → List ℕ → Data → List FoundFault) → (Data → List ℕ) → Row
entries least most name faults name_in = list_row least most name (λ up ds. entries_faults faults name_in [] up 0 ds)

abbrev pub is_among : List (List ℕ) → List ℕ → Bool
is_among names name = list_any (λ n. bytes_eq n name) names

-- the index of a name among others
abbrev pub place_in : List (List ℕ) → List ℕ → Option ℕ
place_in names name = position (λ n. bytes_eq n name) names

-- the map has the index of each name, and no other text
abbrev pub ArePlacesOf : {Y : Type 0} → BTreeMap (String Y) ℕ → List (List ℕ) → Type 0
ArePlacesOf places names = (q : List ℕ) → get_by_text places q ≡ place_in names q

-- a name that differs from earlier ones; the numbers are for a text that isn't a name, and for a name that occurs twice
abbrev pub name_once_by : ℕ → ℕ → List (List ℕ) → List ℕ → Data → List FoundFault
name_once_by wrong twice earlier up d = text_that wrong is_name up d ++ fault_if (is_among earlier (text_of d)) twice up

abbrev pub name_once : List (List ℕ) → List ℕ → Data → List FoundFault
name_once = name_once_by bad_value name_twice

-- The result of checking the kind and length of a list.
abbrev pub IsListBy : ℕ → ℕ → ℕ → ℕ → List ℕ → Data → Result (Bor (List Value)) Fault → Type 0
IsListBy few many least most up d (Ok values) =
    ((faults : List ℕ → List Data → List FoundFault) → list_faults_by few many least most faults up d
    ≡ faults up (map view values.now)) × (items_of d ≡ map view values.now)
IsListBy few many least most up d (Err e) = (faults : List ℕ → List Data → List FoundFault)
    → Refuses e (list_faults_by few many least most faults up d)

abbrev pub IsListOf : ℕ → ℕ → List ℕ → Data → Result (Bor (List Value)) Fault → Type 0
IsListOf = IsListBy missing_member too_many_entries

-- The result of checking the kind and length of an object's member, where a missing member counts as an empty list.
abbrev pub IsMemberList : ℕ → ℕ → List ℕ → List ℕ → Data → Result (Bor (List Value)) Fault → Type 0
IsMemberList least most up name d (Ok values) =
    ((faults : List ℕ → List Data → List FoundFault) → faults (below up name) [] ≡ []
    → faults_of_list least most faults up name (get name d) ≡ faults (below up name) (map view values.now))
    × (items_of (member_of name d) ≡ map view values.now)
IsMemberList least most up name d (Err e) = (faults : List ℕ → List Data → List FoundFault)
    → Refuses e (faults_of_list least most faults up name (get name d))
