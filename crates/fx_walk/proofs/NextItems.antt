-- A list's faults and values, one item on.
use Rattle.std.proofs.Common.{◌≡◌, ◌<◌, ℕ, ◌+◌, List, [], ◌∷◌, ◌++◌, length, get_or, drop, map, refl, sym, ap, ◌∙◌}
use Rattle.std.proofs.lemmas.List.{append_assoc, drop_more}
use Rattle.serde_json.specs.Data.{Data}
use Rattle.serde_json.specs.View.{view}
use Rattle.serde_json.specs.declared.value.Value.{Value}
use Rattle.fx_walk.specs.Pointer.{nth}
use Rattle.fx_walk.specs.Walk.{FoundFault}
use Rattle.fx_walk.specs.Lists.{items_faults, entries_faults}

-- what is left at a place begins with the item that stands there
pub item_here : (vs : List Value) (place index : ℕ) (v : Value) → place ≡ index → index < length vs → v
    ≡ get_or vs index v → drop place vs ≡ v ∷ drop (place + 1) vs
item_here vs place index v same in_range is =
    rw same (drop_more vs index v in_range ∙ ap (λ y. y ∷ drop (index + 1) vs) (sym is))

pub next_item : (faults : List ℕ → Data → List FoundFault) (up : List ℕ) (i : ℕ) (vs : List Value) (v : Value)
    → drop i vs ≡ v ∷ drop (i + 1) vs → items_faults faults up i (map view (drop i vs)) ≡ faults (nth up i) (view v)
    ++ items_faults faults up (i + 1) (map view (drop (i + 1) vs))
next_item faults up i vs v h = rw h refl

pub next_entry : (faults : List (List ℕ) → List ℕ → Data → List FoundFault) (name : Data → List ℕ)
    (earlier : List (List ℕ)) (up : List ℕ) (i : ℕ) (vs : List Value) (v : Value) → drop i vs ≡ v ∷ drop (i + 1) vs
    → entries_faults faults name earlier up i (map view (drop i vs)) ≡ faults earlier (nth up i) (view v)
    ++ entries_faults faults name (earlier ++ name (view v) ∷ []) up (i + 1) (map view (drop (i + 1) vs))
next_entry faults name earlier up i vs v h = rw h refl

pub next_value : {X : Type 0} (meaning : Data → X) (done : List X) (i : ℕ) (vs : List Value) (v : Value) → drop i vs ≡ v
    ∷ drop (i + 1) vs → done ++ map meaning (map view (drop i vs)) ≡ (done ++ meaning (view v) ∷ [])
    ++ map meaning (map view (drop (i + 1) vs))
next_value meaning done i vs v h = rw (h, append_assoc) refl

pub next_name : {X : Type 0} (name : X → List ℕ) (meaning : Data → X) (done : List (List ℕ)) (i : ℕ) (vs : List Value)
    (v : Value) → drop i vs ≡ v ∷ drop (i + 1) vs → done ++ map name (map meaning (map view (drop i vs)))
    ≡ (done ++ name (meaning (view v)) ∷ []) ++ map name (map meaning (map view (drop (i + 1) vs)))
next_name name meaning done i vs v h = rw (h, append_assoc) refl

-- a name more at the end
pub names_more : {X : Type 0} (name : X → List ℕ) (xs : List X) (x : X) → map name (xs ++ x ∷ []) ≡ map name xs
    ++ name x ∷ []
names_more name [] x = refl
names_more name (y ∷ xs) x = ap (λ (names : List (List ℕ)). name y ∷ names) (names_more name xs x)
