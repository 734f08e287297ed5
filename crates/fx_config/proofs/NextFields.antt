-- The faults and the layout of a key's fields, one field on.
use Rattle.std.proofs.Common.{◌≡◌, ℕ, ◌+◌, List, ◌∷◌, ◌++◌, drop, map, refl}
use Rattle.serde_json.specs.View.{view}
use Rattle.serde_json.specs.declared.value.Value.{Value}
use Rattle.fx_walk.specs.Pointer.{nth}
use Rattle.fx_config.specs.Keys.{add_field, field_check, fields_faults, with_fields}
use Rattle.fx_config.specs.KeyFields.{key_field_faults, key_field_of}
use Rattle.fx_layout.specs.Keys.{Layout}

pub next_field : (layout : Layout) (up : List ℕ) (i : ℕ) (vs : List Value) (v : Value) → drop i vs ≡ v ∷ drop (i + 1) vs
    → fields_faults layout up i (map view (drop i vs)) ≡ key_field_faults (nth up i) (view v)
    ++ (field_check layout (key_field_of (view v)) (nth up i)
    ++ fields_faults (add_field layout (key_field_of (view v))) up (i + 1) (map view (drop (i + 1) vs)))
next_field layout up i vs v h = rw h refl

pub next_layout : (layout : Layout) (i : ℕ) (vs : List Value) (v : Value) → drop i vs ≡ v ∷ drop (i + 1) vs
    → with_fields layout (map view (drop i vs))
    ≡ with_fields (add_field layout (key_field_of (view v))) (map view (drop (i + 1) vs))
next_layout layout i vs v h = rw h refl
