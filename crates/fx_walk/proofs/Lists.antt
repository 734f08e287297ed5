-- A list's faults and values, one item at a time.
use Rattle.std.proofs.Common.{◌≡◌, ℕ, suc, List, [], ◌∷◌, length, map, refl, ap, Some, Vec, Global}
use Rattle.serde_json.specs.Data.{Data}
use Rattle.serde_json.specs.View.{view, items_view}
use Rattle.serde_json.specs.declared.value.Value.{Value, Array}
use Rattle.serde_json.proofs.Views.{view-Array}
use Rattle.fx_walk.specs.Lists.{list_of, items_in}

list_of-items_view : (vs : List Value) → list_of (items_view vs) ≡ map view vs
list_of-items_view [] = refl
list_of-items_view (v ∷ vs) = ap (λ (ds : List Data). view v ∷ ds) (list_of-items_view vs)

-- what a list is seen as
pub items_in-Array : (v : Vec Value Global) → items_in (view (Array v)) ≡ Some (map view v.items)
items_in-Array v = rw (view-Array v, list_of-items_view v.items) refl

pub length-views : (vs : List Value) → length (map view vs) ≡ length vs
length-views [] = refl
length-views (v ∷ vs) = ap (λ (n : ℕ). suc n) (length-views vs)
